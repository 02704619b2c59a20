-- The turns of the asking loops: the question of a row, its place, its address and its answer.
use Rattle.std.proofs.Common.{◌≡◌, ℕ, suc, ◌+◌, ◌-◌, ◌*◌, ◌/◌, ◌%◌, ◌^◌, ◌<◌, ◌≤◌, List, length, take, set, sym, ap, ◌∙◌, subst, ap₂, arith, pow_pos, refl}
use Rattle.std.proofs.lemmas.Nat.{div_below, mod_below, div-add-mod'}
use Rattle.std.proofs.lemmas.List.{get_or-take, length-take-le}
use Rattle.trees.specs.declared.shape.Shape.{Shape}
use Rattle.trees.specs.Shapes.{InnerLabel, Marks}
use Rattle.automata.specs.Automata.{Automaton}
use Rattle.automata.specs.Numbering.{Question, at_leaf, at_inner, Over, place, pair_place}
use Rattle.tables.specs.Tables.{TooMany}
use Rattle.tables.specs.Exploring.{code_at, ask}
use Rattle.tables.specs.Images.{width, leaf_address, inner_address, leaf_rows, inner_rows, address}
use Rattle.tables.proofs.SameTables.{over_more}
use Rattle.slots.specs.declared.layout.Layout.{Layout}
use Rattle.build.specs.declared.found.Found.{Found}
use Rattle.build.specs.Discovery.{codes_found, Met, Full, Kept, Noted, Sofar, Discovering}
use Rattle.tables.proofs.Questions.{address_lt}
use Rattle.build.proofs.Questions.{sofar_next, full_too_many}

-- a question over the codes found, with place p and address j below n, is answered with x
pub record Asked (M : Automaton) (N : ℕ) (cs : List ℕ) (p x j n : ℕ) : Type 0 where
  pub q : Question
  pub over : Over M.shape (length cs) q
  pub place_is : place M.shape q ≡ p
  pub address_is : address M.shape N q ≡ j
  pub low : j < n
  pub answer_is : x ≡ ask M (code_at cs) q

sofar_turn : (M : Automaton) (N : ℕ) (cs ds cells : List ℕ) (p x j i : ℕ) → Sofar M N cs cells p → Asked M N cs p x j (length cells) → Met cs ds x i → length ds ≤ N
    → Sofar M N ds (set cells j i) (p + 1)
sofar_turn M N cs ds cells p x j i so a met room =
    let so' = subst (λ (n : ℕ). Sofar M N cs cells n) (sym a.place_is) so in
    let met' = subst (λ (v : ℕ). Met cs ds v i) a.answer_is met in
    let low' = subst (λ (n : ℕ). n < length cells) (sym a.address_is) a.low in
    let w = sofar_next M N cs cells a.q so' a.over ds i met' room low' in
    let e : suc (place M.shape a.q) ≡ p + 1 = omega (arith, a.place_is) in
    subst (λ (n : ℕ). Sofar M N ds (set cells j i) n) e (subst (λ (n : ℕ). Sofar M N ds (set cells n i) (suc (place M.shape a.q))) a.address_is w)

turn_too_many : (M : Automaton) (N : ℕ) (cs cells : List ℕ) (p x j : ℕ) → Sofar M N cs cells p → Asked M N cs p x j (length cells) → Full cs N x → TooMany M N
turn_too_many M N cs cells p x j so a f =
    full_too_many M N cs cells a.q (subst (λ (n : ℕ). Sofar M N cs cells n) (sym a.place_is) so) a.over (subst (λ (v : ℕ). Full cs N v) a.answer_is f)

module _ (sh : Shape) (row label marks : ℕ) (el : label ≡ row / 2 ^ sh.tracks) (em : marks ≡ row % 2 ^ sh.tracks) where
  pub row_is : label * 2 ^ sh.tracks + marks ≡ row
  row_is = ap₂ (λ (a m : ℕ). a * 2 ^ sh.tracks + m) el em ∙ div-add-mod' row (2 ^ sh.tracks)

  pub row_label : (f : ℕ) → row < f * 2 ^ sh.tracks → label < f
  row_label f h = subst (λ (a : ℕ). a < f) (sym el) (div_below row (2 ^ sh.tracks) f (pow_pos sh.tracks) h)

  pub row_marks : Marks sh marks
  row_marks = subst (λ (m : ℕ). m < 2 ^ sh.tracks) (sym em) (mod_below row (2 ^ sh.tracks) (pow_pos sh.tracks))

  pub row_inner : row < inner_rows sh → InnerLabel sh (sh.leaves + label)
  row_inner h = let z = row_label sh.inners h in (omega arith, omega (arith, z))

  inner_place : (x y : ℕ) → place sh (at_inner (sh.leaves + label) marks x y) ≡ leaf_rows sh + pair_place x y * inner_rows sh + row
  inner_place x y =
      let f : sh.leaves + label - sh.leaves ≡ label = omega arith in
      let s : (pair_place x y * sh.inners + (sh.leaves + label - sh.leaves)) * 2 ^ sh.tracks ≡ pair_place x y * inner_rows sh + label * 2 ^ sh.tracks
      = ap (λ (z : ℕ). (pair_place x y * sh.inners + z) * 2 ^ sh.tracks) f ∙ omega arith in
      omega (arith, s, row_is)

leaf_asked : (M : Automaton) (sh : Shape) → sh ≡ M.shape → (N n : ℕ) (cs : List ℕ) (row label marks x j : ℕ) → width sh N ≤ n → row < leaf_rows sh
    → label ≡ row / 2 ^ sh.tracks → marks ≡ row % 2 ^ sh.tracks → x ≡ M.leaf_step label marks → j ≡ leaf_address sh N label marks
    → Asked M N cs row x j n
leaf_asked M sh e N n cs row label marks x j =
    subst (λ (s : Shape). width s N ≤ n → row < leaf_rows s → label ≡ row / 2 ^ s.tracks → marks ≡ row % 2 ^ s.tracks → x ≡ M.leaf_step label marks
    → j ≡ leaf_address s N label marks → Asked M N cs row x j n) (sym e)
    (λ h k el em ex ej.
    let o : Over M.shape N (at_leaf label marks) = (row_label M.shape row label marks el em M.shape.leaves k, row_marks M.shape row label marks el em) in
    record {
      q = at_leaf label marks;
      over = o;
      place_is = row_is M.shape row label marks el em;
      address_is = sym ej;
      low = omega (arith, h, ej, address_lt M.shape N (at_leaf label marks) o);
      answer_is = ex;
    })

inner_asked : (M : Automaton) (sh : Shape) → sh ≡ M.shape → (N n len : ℕ) (codes : List ℕ) (row x y label marks v j : ℕ) → width sh N ≤ n → row < inner_rows sh
    → len ≤ length codes → len ≤ N → x < len → y < len
    → label ≡ row / 2 ^ sh.tracks → marks ≡ row % 2 ^ sh.tracks
    → v ≡ M.inner_step (sh.leaves + label) marks (code_at codes x) (code_at codes y)
    → j ≡ inner_address sh N (sh.leaves + label) marks x y
    → Asked M N (take len codes) (leaf_rows sh + pair_place x y * inner_rows sh + row) v j n
inner_asked M sh e N n len codes row x y label marks v j =
    subst (λ (s : Shape). width s N ≤ n → row < inner_rows s → len ≤ length codes → len ≤ N → x < len → y < len
    → label ≡ row / 2 ^ s.tracks → marks ≡ row % 2 ^ s.tracks
    → v ≡ M.inner_step (s.leaves + label) marks (code_at codes x) (code_at codes y)
    → j ≡ inner_address s N (s.leaves + label) marks x y
    → Asked M N (take len codes) (leaf_rows s + pair_place x y * inner_rows s + row) v j n) (sym e)
    (λ h k l r hx hy el em ev ej.
    let len_is : length (take len codes) ≡ len = length-take-le len codes l in
    let o : Over M.shape len (at_inner (M.shape.leaves + label) marks x y)
    = (row_inner M.shape row label marks el em k, row_marks M.shape row label marks el em, hx, hy) in
    record {
      q = at_inner (M.shape.leaves + label) marks x y;
      over = subst (λ (m : ℕ). Over M.shape m (at_inner (M.shape.leaves + label) marks x y)) (sym len_is) o;
      place_is = inner_place M.shape row label marks el em x y;
      address_is = sym ej;
      low = omega (arith, h, ej, address_lt M.shape N (at_inner (M.shape.leaves + label) marks x y) (over_more M.shape len N (at_inner (M.shape.leaves + label) marks x y) r o));
      answer_is = ev ∙ ap₂ (M.inner_step (M.shape.leaves + label) marks) (sym (get_or-take len codes x 0 hx)) (sym (get_or-take len codes y 0 hy));
    })

-- a turn of a discovery: its layout is l, and its next question stands at place p
module _ (M : Automaton) (d : Found) (l : Layout) (same : d.layout ≡ l) (p : ℕ) (s : Discovering M d p) where
  shape_is : l.shape ≡ M.shape
  shape_is = ap (λ (k : Layout). k.shape) (sym same) ∙ s.shape

  lent : width l.shape l.most ≤ length d.cells.now
  lent = subst (λ (k : Layout). width k.shape k.most ≤ length d.cells.now) same d.cells_lent

  few : d.len ≤ l.most
  few = subst (λ (k : Layout). d.len ≤ k.most) same d.room

  sofar : Sofar M l.most (codes_found d) d.cells.now p
  sofar = subst (λ (k : Layout). Sofar M k.most (codes_found d) d.cells.now p) same s.sofar

  pub leaf_turn : (label marks x j : ℕ) → p < leaf_rows l.shape → label ≡ p / 2 ^ l.shape.tracks → marks ≡ p % 2 ^ l.shape.tracks
      → x ≡ M.leaf_step label marks → j ≡ leaf_address l.shape l.most label marks → Asked M l.most (codes_found d) p x j (length d.cells.now)
  leaf_turn label marks x j low = leaf_asked M l.shape shape_is l.most (length d.cells.now) (codes_found d) p label marks x j lent low

  pub inner_turn : (row x y a m v j : ℕ) → p ≡ leaf_rows l.shape + pair_place x y * inner_rows l.shape + row → row < inner_rows l.shape → x < d.len → y < d.len
      → a ≡ l.shape.leaves + row / 2 ^ l.shape.tracks → m ≡ row % 2 ^ l.shape.tracks
      → v ≡ M.inner_step a m (code_at d.codes.now x) (code_at d.codes.now y) → j ≡ inner_address l.shape l.most a m x y
      → Asked M l.most (codes_found d) p v j (length d.cells.now)
  inner_turn row x y a m v j at low hx hy ea em ev ej =
      subst (λ (n : ℕ). Asked M l.most (codes_found d) n v j (length d.cells.now)) (sym at)
      (inner_asked M l.shape shape_is l.most (length d.cells.now) d.len d.codes.now row x y (row / 2 ^ l.shape.tracks) (row % 2 ^ l.shape.tracks) v j
      lent low (omega (arith, d.room, d.codes_lent)) few hx hy refl refl
      (ev ∙ ap₂ (λ (b k : ℕ). M.inner_step b k (code_at d.codes.now x) (code_at d.codes.now y)) ea em)
      (ej ∙ ap₂ (λ (b k : ℕ). inner_address l.shape l.most b k x y) ea em))

  pub noted_turn : (e : Found) (x j : ℕ) → Asked M l.most (codes_found d) p x j (length d.cells.now) → Kept d e → Noted d e j x → Discovering M e (p + 1)
  noted_turn e x j a k n = record {
    shape = ap (λ (m : Layout). m.shape) k.layout ∙ s.shape;
    sofar =
        let room : length (codes_found e) ≤ e.layout.most = omega (arith, length-take-le e.len e.codes.now (omega (arith, e.room, e.codes_lent)), e.room) in
        let most : e.layout.most ≡ l.most = ap (λ (m : Layout). m.most) (k.layout ∙ same) in
        subst (λ (cells : List ℕ). Sofar M e.layout.most (codes_found e) cells (p + 1)) (sym n.cell)
        (subst (λ (N : ℕ). Sofar M N (codes_found e) (set d.cells.now j n.index) (p + 1)) (sym most)
        (sofar_turn M l.most (codes_found d) (codes_found e) d.cells.now p x j n.index sofar a n.met (omega (arith, room, most))));
  }

  pub noted_too_many : (x j : ℕ) → Asked M l.most (codes_found d) p x j (length d.cells.now) → Full (codes_found d) d.layout.most x → TooMany M l.most
  noted_too_many x j a f =
      turn_too_many M l.most (codes_found d) d.cells.now p x j sofar a (subst (λ (k : Layout). Full (codes_found d) k.most x) same f)

pub kept_along : (a b c : Found) → Kept a b → Kept b c → Kept a c
kept_along a b c p q = record { layout = q.layout ∙ p.layout; codes = q.codes ∙ p.codes; cells = q.cells ∙ p.cells; more = omega (arith, p.more, q.more) }

pub discovering_at : {M : Automaton} {d : Found} {p q : ℕ} → p ≡ q → Discovering M d p → Discovering M d q
discovering_at {M} {d} e s = subst (λ (n : ℕ). Discovering M d n) e s
