-- A slot that holds the table of an automaton answers as that table, and is canonical.
use Rattle.std.proofs.Common.{◌≡◌, ℕ, ◌+◌, ◌^◌, ◌<◌, ◌≤◌, Bool, true, false, cond, ◌&&◌, eqb, ltb, ◌↔◌, List, get_or, sym, refl, ap, ◌∙◌, subst, arith, lit<}
use mathlib.Core.Path.{fun_ext}
use Rattle.std.proofs.lemmas.Bool.{lt-ltb, cond-true}
use Rattle.trees.specs.declared.shape.Shape.{Shape}
use Rattle.automata.specs.Automata.{Automaton, Lawful}
use Rattle.automata.specs.Atoms.{guarded, leaf_asked, inner_asked}
use Rattle.automata.specs.Numbering.{Table, Question, at_leaf, at_inner, answer, Over, own_table, CodesAreStates}
use Rattle.automata.proofs.Guards.{guard_leaf, guard_inner, guard_final}
use Rattle.tables.specs.Tables.{SameTable, Closed, TableOf, AcceptSame, table_automaton}
use Rattle.tables.specs.Images.{Image, states_of, kept, leaf_address, inner_address, fits}
use Rattle.tables.specs.Slots.{answering, slot_automaton, slot_table}
use Rattle.tables.specs.SlotLaws.{fits_facts, slot_lawful}
use Rattle.tables.specs.Texts.{Small}
use Rattle.tables.specs.Canonical.{slot_text, TableIn, CanonicalSlot}
use Rattle.tables.proofs.Flags.{one_if_eqb}
use Rattle.tables.proofs.SameTables.{same_sym, same_table_of}
use Rattle.tables.proofs.TableRuns.{closed, same_accepts}
use Rattle.tables.proofs.OwnTables.{own_table_of, reached_lt}
use Rattle.tables.proofs.TableStates.{table_states, some_state, fewest}
use Rattle.tables.proofs.Canon.{same_table, accept_same}
use Rattle.tables.proofs.Images.{image_bytes, image_table}
use Rattle.tables.proofs.Texts.{text_iff}

kept_lt : (c x : ℕ) → x < c → kept c x ≡ x
kept_lt c x h = cond-true (ltb x c) x 0 (lt-ltb x c h)

module _ (sh : Shape) (N : ℕ) (T : Table) (bs : List ℕ) (im : Image sh N T bs) (some : 1 ≤ T.states) where
  image_states : states_of N bs ≡ T.states
  image_states = omega (arith, im.few, im.states)

  -- where the slot answers at all
  answers : Closed sh T → SameTable sh T (own_table (answering true sh N bs))
  answers inside = record { states = sym image_states; final = final; cells = cells }
    where
      final : (s : ℕ) → s < T.states → T.final s ≡ (answering true sh N bs).final s
      final s h =
          sym (guard_final (states_of N bs) s (eqb (get_or bs (1 + s) 0) 1) (omega (arith, image_states))
          ∙ (ap (λ (b : ℕ). eqb b 1) (im.final s h) ∙ one_if_eqb (T.final s)))

      read : (v w : ℕ) → v ≡ w → w < T.states → kept (states_of N bs) v ≡ w
      read v w e h = kept_lt (states_of N bs) v (omega (arith, image_states)) ∙ e

      cells : (q : Question) → Over sh T.states q → answer T q ≡ answer (own_table (answering true sh N bs)) q
      cells (at_leaf a m) o =
          sym (guard_leaf sh a m (kept (states_of N bs) (get_or bs (leaf_address sh N a m) 0)) o.0 o.1
          ∙ read (get_or bs (leaf_address sh N a m) 0) (T.leaf_cell a m) (im.leaf_cell a m o.0 o.1) (inside (at_leaf a m) o))
      cells (at_inner a m x y) o =
          sym (guard_inner sh (states_of N bs) a m x y (kept (states_of N bs) (get_or bs (inner_address sh N a m x y) 0)) o.0 o.1
          (omega (arith, image_states)) (omega (arith, image_states))
          ∙ read (get_or bs (inner_address sh N a m x y) 0) (T.inner_cell a m x y) (im.inner_cell a m x y o.0 o.1 o.2 o.3) (inside (at_inner a m x y) o))

  pub image_answers : fits sh N ≡ true → Closed sh T → SameTable sh T (slot_table sh N bs)
  image_answers e inside = subst (λ (ok : Bool). SameTable sh T (own_table (answering ok sh N bs))) (sym e) (answers inside)

-- a guarded automaton is that of its own table
guard_twice : (b : Bool) (v : ℕ) → cond b (cond b v 0) 0 ≡ cond b v 0
guard_twice true v = refl
guard_twice false v = refl

and_twice : (a b : Bool) → (a && (a && b)) ≡ (a && b)
and_twice true b = refl
and_twice false b = refl

own_guarded : (sh : Shape) (c : ℕ) (f : ℕ → ℕ → ℕ) (g : ℕ → ℕ → ℕ → ℕ → ℕ) (e : ℕ → Bool) → table_automaton sh (own_table (guarded sh c f g e)) ≡ guarded sh c f g e
own_guarded sh c f g e = λ i. record {
  shape = sh;
  count = c;
  leaf_step = leaf i;
  inner_step = inner i;
  final = final i;
}
  where
    leaf : (table_automaton sh (own_table (guarded sh c f g e))).leaf_step ≡ (guarded sh c f g e).leaf_step
    leaf = fun_ext (λ a. fun_ext (λ m. guard_twice (leaf_asked sh a m) (f a m)))

    inner : (table_automaton sh (own_table (guarded sh c f g e))).inner_step ≡ (guarded sh c f g e).inner_step
    inner = fun_ext (λ a. fun_ext (λ m. fun_ext (λ x. fun_ext (λ y. guard_twice (inner_asked sh c a m x y) (g a m x y)))))

    final : (table_automaton sh (own_table (guarded sh c f g e))).final ≡ (guarded sh c f g e).final
    final = fun_ext (λ x. and_twice (ltb x c) (e x))

own_slot : (sh : Shape) (N : ℕ) (bs : List ℕ) → table_automaton sh (slot_table sh N bs) ≡ slot_automaton sh N bs
own_slot sh N bs = own_guarded sh _ _ _ _

module _ (M : Automaton) (N k : ℕ) (bs : List ℕ) (ok : fits M.shape N ≡ true) (t : TableIn M N k bs) where
  -- the slot's own table is that of M
  pub slot_same : SameTable M.shape t.table (slot_table M.shape N bs)
  slot_same =
      image_answers M.shape N t.table bs t.image (some_state M t.table t.right (fits_facts M.shape N ok).shape) ok
      (closed M t.table t.right)

  pub slot_table_of : TableOf M (slot_table M.shape N bs)
  slot_table_of = same_table_of M t.table (slot_table M.shape N bs) slot_same t.right

  pub slot_accepts : AcceptSame (slot_automaton M.shape N bs) M
  slot_accepts = same_accepts M t.table t.right (slot_automaton M.shape N bs) slot_same

  slot_states : CodesAreStates (slot_automaton M.shape N bs)
  slot_states = subst CodesAreStates (own_slot M.shape N bs) (table_states M (slot_table M.shape N bs) slot_table_of)

  slot_itself : TableIn (slot_automaton M.shape N bs) N k bs
  slot_itself = record {
    table = t.table;
    right = same_table_of (slot_automaton M.shape N bs) (slot_table M.shape N bs) t.table
        (same_sym M.shape t.table (slot_table M.shape N bs) slot_same)
        (own_table_of (slot_automaton M.shape N bs) (reached_lt (slot_automaton M.shape N bs) (slot_lawful M.shape N bs)) slot_states);
    states = t.states;
    image = t.image;
  }

-- the numbers of a slot's table are small
pub slot_small : (sh : Shape) (N : ℕ) (bs : List ℕ) → Small sh (slot_table sh N bs)
slot_small sh N bs = record { states = omega (arith, law.count_fits.1, big); cells = cells }
  where
    law : Lawful (slot_automaton sh N bs)
    law = slot_lawful sh N bs

    big : 2 ^ 32 < 2 ^ 64
    big = lit< tt

    cells : (q : Question) → Over sh (slot_table sh N bs).states q → answer (slot_table sh N bs) q < 2 ^ 64
    cells (at_leaf a m) o = omega (arith, law.leaf_in a m, law.count_fits.1, big)
    cells (at_inner a m x y) o = omega (arith, law.inner_in a m x y, law.count_fits.1, big)

module _ (M M' : Automaton) (N N' k k' : ℕ) (bs cs : List ℕ) (e : M.shape ≡ M'.shape) (ok : fits M.shape N ≡ true) (ok' : fits M.shape N' ≡ true)
    (t : TableIn M N k bs) (t' : TableIn M' N' k' cs) where
  there : fits M'.shape N' ≡ true
  there = subst (λ (sh : Shape). fits sh N' ≡ true) e ok'

  other : TableOf M' (slot_table M.shape N' cs)
  other = subst (λ (sh : Shape). TableOf M' (slot_table sh N' cs)) (sym e) (slot_table_of M' N' k' cs there t')

  pub slots_told : (slot_text M.shape N bs ≡ slot_text M.shape N' cs) ↔ AcceptSame M M'
  slots_told =
      let fit = (fits_facts M.shape N ok).shape in
      let iff = text_iff M.shape M.shape (slot_table M.shape N bs) (slot_table M.shape N' cs) fit fit (slot_small M.shape N bs) (slot_small M.shape N' cs) in (
        (λ z. accept_same M M' (slot_table M.shape N bs) (slot_table M.shape N' cs) e (slot_table_of M N k bs ok t) other (iff.0 z).1),
        λ agrees. iff.1 (refl, same_table M M' (slot_table M.shape N bs) (slot_table M.shape N' cs) e (slot_table_of M N k bs ok t) other agrees),
      )

module _ (M M' : Automaton) (N k k' : ℕ) (bs cs : List ℕ) (e : M.shape ≡ M'.shape) (t : TableIn M N k bs) (t' : TableIn M' N k' cs) where
  moved : Image M.shape N t'.table cs
  moved = subst (λ (sh : Shape). Image sh N t'.table cs) (sym e) t'.image

  pub slots_equal : (bs ≡ cs) ↔ AcceptSame M M'
  slots_equal = (
    (λ z. accept_same M M' t.table t'.table e t.right t'.right
        (image_table M.shape N t.table t'.table bs t.image (subst (Image M.shape N t'.table) (sym z) moved))),
    λ agrees. image_bytes M.shape N t.table t'.table bs cs t.image moved (same_table M M' t.table t'.table e t.right t'.right agrees),
  )

pub canonical_slot : (M : Automaton) (N k : ℕ) (bs : List ℕ) → fits M.shape N ≡ true → TableIn M N k bs → CanonicalSlot M N k bs
canonical_slot M N k bs ok t = record {
  accepts = slot_accepts M N k bs ok t;
  count = sym (slot_same M N k bs ok t).states ∙ t.states;
  states = slot_states M N k bs ok t;
  itself = slot_itself M N k bs ok t;
  fewest = λ M' e law agrees. subst (λ (n : ℕ). n ≤ M'.count) t.states (fewest M t.table t.right M' e law agrees);
  same = λ M' k' cs e t'. slots_equal M M' N k k' bs cs e t t';
  told = λ M' N' k' cs e ok' t'. slots_told M M' N N' k k' bs cs e ok ok' t t';
}
