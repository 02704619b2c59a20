-- The worked table is as written out.
use Rattle.std.proofs.Common.{refl, lit<, lit≤}
use Rattle.std.proofs.lemmas.Fmt.{decimal_digit}
use Rattle.trees.specs.Nodes.{bit}
use Rattle.automata.specs.Rules.{sing}
use Rattle.automata.specs.Atoms.{sing_automaton}
use Rattle.automata.proofs.AtomAutomata.{atom_lawful}
use Rattle.automata.proofs.AtomStates.{atom_states}
use Rattle.tables.specs.Examples.{shape_111, sing_table, TableExamples}
use Rattle.tables.proofs.OwnTables.{reached_lt, own_table_of}
use Rattle.tables.proofs.MadeImages.{image_made}

pub table_examples_lem : TableExamples
unfolding bit
table_examples_lem = record {
  table = own_table_of (sing_automaton shape_111 0) (reached_lt (sing_automaton shape_111 0) (atom_lawful shape_111 (sing 0))) (atom_states shape_111 (sing 0) refl (lit< tt));
  text = simp (decimal_digit 0 (lit< tt), decimal_digit 1 (lit< tt), decimal_digit 2 (lit< tt), decimal_digit 3 (lit< tt));
  bytes = image_made shape_111 4 sing_table (lit≤ tt);
}
