-- The automaton of each atom.
-- Words:
--   guarded            an automaton from its steps inside shape and count; outside it answers code 0 and "not final"
--   sing_automaton     0: no node of the track so far, 1: one, 2: more
--   every_automaton    a rule on each node by itself: 0 where no node so far is bad, 1 else
--   sub_bad, lab_bad   the label and marks that are bad for Sub and for Lab
--   Standing           how a part stands to "i's one node is above j's one node", the same four ways for Left, Right and Below
--   number, standing   a standing's code and back, numbered as first met
--   Step               what the standings of two parts make under a node, by its marks in i and in j
--   ones_automaton     the automaton of standings under a step; where i and j are one track the rule never holds, and one code is enough
--   atom_automaton     the automaton of an atom
use Rattle.std.specs.Prelude.{ℕ, zero, suc, ◌+◌, ◌^◌, min, Bool, true, false, cond, not, ◌&&◌, ◌==◌, nat_eq, nat_le, nat_lt}
use Rattle.trees.specs.declared.shape.Shape.{Shape}
use Rattle.automata.specs.declared.standing.Standing.{Standing}
use Rattle.automata.specs.declared.standing.Standing.TheVariants.{Neither, Waiting, Done, Dead}
use Rattle.trees.specs.Shapes.{labels}
use Rattle.trees.specs.Nodes.{bit}
use Rattle.automata.specs.Automata.{Automaton}
use Rattle.automata.specs.Rules.{Atom, sub, lab, sing, left_of, right_of, below}

abbrev pub leaf_asked : Shape → ℕ → ℕ → Bool
leaf_asked sh a m = nat_lt a sh.leaves && nat_lt m (2 ^ sh.tracks)

abbrev pub inner_asked : Shape → ℕ → ℕ → ℕ → ℕ → ℕ → Bool
inner_asked sh c a m x y = nat_le sh.leaves a && (nat_lt a (labels sh) && (nat_lt m (2 ^ sh.tracks) && (nat_lt x c && nat_lt y c)))

abbrev pub guarded : Shape → ℕ → (ℕ → ℕ → ℕ) → (ℕ → ℕ → ℕ → ℕ → ℕ) → (ℕ → Bool) → Automaton
guarded sh c f g e = record {
  shape = sh;
  count = c;
  leaf_step = λ a m. cond (leaf_asked sh a m) (f a m) 0;
  inner_step = λ a m x y. cond (inner_asked sh c a m x y) (g a m x y) 0;
  final = λ x. nat_lt x c && e x;
}

-- 1 where b, else 0
abbrev pub one_if : Bool → ℕ
one_if b = cond b 1 0

abbrev pub sing_automaton : Shape → ℕ → Automaton
sing_automaton sh i = guarded sh 3 (λ a m. one_if (bit i m)) (λ a m x y. min 2 (one_if (bit i m) + (x + y))) (λ x. nat_eq x 1)

-- over c codes: 1 is enough where no node is bad
abbrev pub every_automaton : Shape → ℕ → (ℕ → ℕ → Bool) → Automaton
every_automaton sh c bad =
    guarded sh c (λ a m. one_if (bad a m)) (λ a m x y. min 1 (one_if (bad a m) + (x + y))) (λ x. nat_eq x 0)

-- in i and not in j
abbrev pub sub_bad : ℕ → ℕ → ℕ → ℕ → Bool
sub_bad i j a m = bit i m && not (bit j m)

-- in i and of another label than b
abbrev pub lab_bad : ℕ → ℕ → ℕ → ℕ → Bool
lab_bad i b a m = bit i m && not (a == b)

abbrev pub sub_automaton : Shape → ℕ → ℕ → Automaton
sub_automaton sh i j = every_automaton sh (cond (i == j) 1 2) (sub_bad i j)

abbrev pub lab_automaton : Shape → ℕ → ℕ → Automaton
lab_automaton sh i b = every_automaton sh 2 (lab_bad i b)

-- of two leaves with one mark each the one with the smaller mark is met first; a lone i is dead, a lone j waits
abbrev pub number : Bool → Standing → ℕ
number i_first Neither = 0
number i_first Waiting = cond i_first 2 1
number i_first Done = 3
number i_first Dead = cond i_first 1 2

abbrev pub standing : Bool → ℕ → Standing
standing i_first zero = Neither
standing i_first (suc zero) = cond i_first Dead Waiting
standing i_first (suc (suc zero)) = cond i_first Waiting Dead
standing i_first (suc (suc (suc n))) = Done

-- two parts side by side
abbrev pub beside : Standing → Standing → Standing
beside Neither y = y
beside Waiting Neither = Waiting
beside Waiting Waiting = Dead
beside Waiting Done = Dead
beside Waiting Dead = Dead
beside Done Neither = Done
beside Done Waiting = Dead
beside Done Done = Dead
beside Done Dead = Dead
beside Dead y = Dead

-- a part with no i right above it, where the relation wants j's node to be a child of i's
abbrev pub passed : Standing → Standing
passed Neither = Neither
passed Waiting = Dead
passed Done = Done
passed Dead = Dead

-- under i's own node: what hangs there must wait for it
abbrev pub met : Standing → Standing
met Neither = Dead
met Waiting = Done
met Done = Dead
met Dead = Dead

-- under j's own node: nothing of either track may hang there
abbrev pub alone : Standing → Standing
alone Neither = Waiting
alone Waiting = Dead
alone Done = Dead
alone Dead = Dead

abbrev pub leaf_standing : Bool → Bool → Standing
leaf_standing false false = Neither
leaf_standing false true = Waiting
leaf_standing true false = Dead
leaf_standing true true = Dead

abbrev pub Step : Type 0
Step = Bool → Bool → Standing → Standing → Standing

abbrev pub below_step : Step
below_step false false x y = beside x y
below_step false true x y = alone (beside x y)
below_step true false x y = met (beside x y)
below_step true true x y = Dead

abbrev pub left_step : Step
left_step false false x y = beside (passed x) (passed y)
left_step false true x y = alone (beside x y)
left_step true false x y = met (beside x (passed y))
left_step true true x y = Dead

abbrev pub right_step : Step
right_step false false x y = beside (passed x) (passed y)
right_step false true x y = alone (beside x y)
right_step true false x y = met (beside (passed x) y)
right_step true true x y = Dead

-- with the answers to "is i = j" and "is i < j" apart
abbrev pub standings_automaton : Bool → Bool → Step → Shape → ℕ → ℕ → Automaton
standings_automaton same i_first step sh i j = guarded sh (cond same 1 4)
    (λ a m. cond same 0 (number i_first (leaf_standing (bit i m) (bit j m))))
    (λ a m x y. cond same 0 (number i_first (step (bit i m) (bit j m) (standing i_first x) (standing i_first y))))
    (λ x. nat_eq x 3)

abbrev pub ones_automaton : Step → Shape → ℕ → ℕ → Automaton
ones_automaton step sh i j = standings_automaton (i == j) (nat_lt i j) step sh i j

abbrev pub atom_automaton : Shape → Atom → Automaton
atom_automaton sh (sub i j) = sub_automaton sh i j
atom_automaton sh (lab i a) = lab_automaton sh i a
atom_automaton sh (sing i) = sing_automaton sh i
atom_automaton sh (left_of i j) = ones_automaton left_step sh i j
atom_automaton sh (right_of i j) = ones_automaton right_step sh i j
atom_automaton sh (below i j) = ones_automaton below_step sh i j
