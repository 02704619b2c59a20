-- Where the discovery ends: no ring is left, and every question has been asked.
use Rattle.std.proofs.Common.{◌≡◌, ℕ, ◌+◌, ◌*◌, ◌^◌, ◌<◌, ◌≤◌, List, length, get_or, take, sym, refl, subst, mul-le-mul_right, mul-le-mul, arith}
use Rattle.std.proofs.lemmas.List.{length-take-le}
use Rattle.trees.specs.declared.shape.Shape.{Shape}
use Rattle.automata.specs.Automata.{Automaton}
use Rattle.automata.specs.Numbering.{Question, at_leaf, at_inner, answer, Over, place}
use Rattle.tables.specs.Exploring.{code_at, ask}
use Rattle.tables.proofs.LatePlaces.{place_lt_end}
use Rattle.tables.proofs.Ends.{explored}
use Rattle.tables.specs.Images.{address, leaf_rows, inner_rows}
use Rattle.slots.specs.declared.layout.Layout.{Layout}
use Rattle.build.specs.declared.found.Found.{Found}
use Rattle.build.specs.Discovery.{codes_found, Sofar, Discovering, Discovered, index_table}

-- a question over n codes stands before the ring of a later one
place_lt_ring : (sh : Shape) (n r : ℕ) → n ≤ r → (q : Question) → Over sh n q → place sh q < leaf_rows sh + r * r * inner_rows sh
place_lt_ring sh n r h q o =
    let z : n * n * (sh.inners * 2 ^ sh.tracks) ≤ r * r * (sh.inners * 2 ^ sh.tracks) = mul-le-mul_right (sh.inners * 2 ^ sh.tracks) (mul-le-mul h h) in
    let w : n * n * sh.inners * 2 ^ sh.tracks ≡ n * n * (sh.inners * 2 ^ sh.tracks) = omega arith in
    omega (arith, z, w, place_lt_end sh n q o)

-- every question over the codes found is asked
pub discovered : (M : Automaton) (d : Found) (l : Layout) (r : ℕ) (codes cells : List ℕ) → codes ≡ d.codes.now → cells ≡ d.cells.now → d.layout ≡ l → d.len ≤ r
    → Discovering M d (leaf_rows d.layout.shape + r * r * inner_rows d.layout.shape) → Discovered M l.most d.len (take d.len codes) cells
discovered M d l r codes cells ec eb el past s =
    subst (λ (k : Layout). Discovered M k.most d.len (take d.len codes) cells) el
    (subst (λ (cs : List ℕ). Discovered M d.layout.most d.len (take d.len cs) cells) (sym ec) (subst (λ (bs : List ℕ). Discovered M d.layout.most d.len (codes_found d) bs) (sym eb) go))
  where
    len : length (codes_found d) ≡ d.len
    len = length-take-le d.len d.codes.now (omega (arith, d.room, d.codes_lent))

    reads : (q : Question) → answer (index_table M d.layout.most d.len (codes_found d) d.cells.now) q ≡ get_or d.cells.now (address M.shape d.layout.most q) 0
    reads (at_leaf a m) = refl
    reads (at_inner a m x y) = refl

    so : Sofar M d.layout.most (codes_found d) d.cells.now (leaf_rows M.shape + r * r * inner_rows M.shape)
    so = subst (λ (t : Shape). Sofar M d.layout.most (codes_found d) d.cells.now (leaf_rows t + r * r * inner_rows t)) s.shape s.sofar

    go : Discovered M d.layout.most d.len (codes_found d) d.cells.now
    go = record {
      room = d.room;
      all = explored M (codes_found d) (leaf_rows M.shape + r * r * inner_rows M.shape) so.upto (index_table M d.layout.most d.len (codes_found d) d.cells.now) (sym len)
          (λ q o. subst (λ (v : ℕ). (v < length (codes_found d)) × (code_at (codes_found d) v ≡ ask M (code_at (codes_found d)) q)) (sym (reads q))
          (so.written q o (place_lt_ring M.shape (length (codes_found d)) r (omega (arith, len, past)) q o)));
    }

pub discovered_at : {M : Automaton} {N n m : ℕ} {codes cells : List ℕ} → n ≡ m → Discovered M N n codes cells → Discovered M N m codes cells
discovered_at {M} {N} {n} {m} {codes} {cells} e d = subst (λ (k : ℕ). Discovered M N k codes cells) e d
