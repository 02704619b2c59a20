-- The automaton of a slot's bytes is lawful, whatever they are.
use Rattle.std.specs.Prelude.{◌≡◌, ℕ, ◌^◌, ◌<◌, ◌≤◌, Bool, true, false, cond, List, nat_le, slice_index, refl}
use Rattle.std.proofs.Common.{arith, lit≤}
use Rattle.std.proofs.lemmas.Bool.{and_parts, leb-true, ltb-true, cond_both}
use Rattle.trees.specs.declared.shape.Shape.{Shape}
use Rattle.trees.specs.Shapes.{limits, within}
use Rattle.automata.specs.Automata.{Lawful}
use Rattle.automata.proofs.Guards.{guarded_lawful}
use Rattle.tables.specs.Images.{states_of, kept, leaf_address, inner_address, fits, Fits}
use Rattle.tables.specs.Slots.{codes, answering, slot_automaton}

pub fits_facts : (sh : Shape) (N : ℕ) → fits sh N ≡ true → Fits sh N
fits_facts sh N e =
    let p = and_parts (limits sh.leaves sh.inners sh.tracks) (within 1 32 N) e in
    let q = and_parts (nat_le 1 N) (nat_le N 32) p.1 in
    record { shape = p.0; some = leb-true 1 N q.0; few = leb-true N 32 q.1 }

pub fits_few : (sh : Shape) (N : ℕ) → fits sh N ≡ true → N ≤ 32
fits_few sh N e = (fits_facts sh N e).few

states_pos : (N : ℕ) (bs : List ℕ) → 1 ≤ states_of N bs
states_pos N bs = omega arith

pub states_few : (N : ℕ) (bs : List ℕ) → N ≤ 32 → states_of N bs ≤ 32
states_few N bs h = omega arith

kept_lt : (c x : ℕ) → 1 ≤ c → kept c x < c
kept_lt c x h = cond_both _ x 0 (λ (y : ℕ). y < c) (λ e. ltb-true x c e) (λ _. h)

codes_pos : (ok : Bool) (N : ℕ) (bs : List ℕ) → 1 ≤ codes ok N bs
codes_pos true N bs = states_pos N bs
codes_pos false N bs = omega arith

pub codes_few : (ok : Bool) (N : ℕ) (bs : List ℕ) → (ok ≡ true → N ≤ 32) → codes ok N bs ≤ 32
codes_few true N bs h = states_few N bs (h refl)
codes_few false N bs h = lit≤ tt

cell_lt : (ok : Bool) (N x : ℕ) (bs : List ℕ) → cond ok (kept (states_of N bs) x) 0 < codes ok N bs
cell_lt true N x bs = kept_lt (states_of N bs) x (states_pos N bs)
cell_lt false N x bs = omega arith

-- by any test that gives room for 32 states at most
pub answering_lawful : (ok : Bool) (sh : Shape) (N : ℕ) (bs : List ℕ) → (ok ≡ true → N ≤ 32) → Lawful (answering ok sh N bs)
answering_lawful ok sh N bs h =
    let p : 32 ≤ 2 ^ 32 = lit≤ tt in
    let few = codes_few ok N bs h in
    guarded_lawful sh (codes ok N bs) _ _ _ (codes_pos ok N bs) (omega arith)
    (λ a m q k. cell_lt ok N (slice_index bs (leaf_address sh N a m)) bs)
    (λ a m x y q k u v. cell_lt ok N (slice_index bs (inner_address sh N a m x y)) bs)

pub slot_few : (sh : Shape) (N : ℕ) (bs : List ℕ) → (slot_automaton sh N bs).count ≤ 32
slot_few sh N bs = codes_few (fits sh N) N bs (fits_few sh N)

pub slot_lawful : (sh : Shape) (N : ℕ) (bs : List ℕ) → Lawful (slot_automaton sh N bs)
slot_lawful sh N bs = answering_lawful (fits sh N) sh N bs (fits_few sh N)
