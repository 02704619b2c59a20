-- What a guarded automaton answers inside shape and count; and that it is lawful where its steps stay below the count.
use Rattle.std.proofs.Common.{◌≡◌, ℕ, ◌^◌, ◌<◌, ◌≤◌, Bool, true, false, cond, ◌&&◌, T, ltb, leb, refl, arith, ltb→lt, leb→le}
use Rattle.trees.specs.declared.shape.Shape.{Shape}
use Rattle.trees.specs.Shapes.{labels, LeafLabel, InnerLabel, Marks}
use Rattle.automata.specs.Automata.{Lawful}
use Rattle.automata.specs.Atoms.{guarded, leaf_asked, inner_asked}
use Rattle.automata.proofs.Tests.{and_iff}

pub guard_leaf : (sh : Shape) (a m v : ℕ) → LeafLabel sh a → Marks sh m → cond (leaf_asked sh a m) v 0 ≡ v
guard_leaf sh a m v h k = grind arith

pub guard_inner : (sh : Shape) (c a m x y v : ℕ) → InnerLabel sh a → Marks sh m → x < c → y < c → cond (inner_asked sh c a m x y) v 0 ≡ v
guard_inner sh c a m x y v h k p q = grind arith

pub guard_final : (c x : ℕ) (b : Bool) → x < c → (ltb x c && b) ≡ b
guard_final c x b h = grind arith

if_in : (b : Bool) (v c : ℕ) → 1 ≤ c → (T b → v < c) → cond b v 0 < c
if_in true v c h k = k tt
if_in false v c h k = h

if_out : (b : Bool) (v : ℕ) → ¬ T b → cond b v 0 ≡ 0
if_out true v h = absurd (h tt)
if_out false v h = refl

leaf_told : (sh : Shape) (a m : ℕ) → T (leaf_asked sh a m) → LeafLabel sh a × Marks sh m
leaf_told sh a m h = let w = (and_iff (ltb a sh.leaves) _).0 h in (ltb→lt a sh.leaves w.0, ltb→lt m (2 ^ sh.tracks) w.1)

pub inner_told : (sh : Shape) (c a m x y : ℕ) → T (inner_asked sh c a m x y) → InnerLabel sh a × Marks sh m × (x < c) × (y < c)
inner_told sh c a m x y h =
    let w = (and_iff (leb sh.leaves a) _).0 h in
    let v = (and_iff (ltb a (labels sh)) _).0 w.1 in
    let u = (and_iff (ltb m (2 ^ sh.tracks)) _).0 v.1 in
    let s = (and_iff (ltb x c) _).0 u.1 in
    ((leb→le sh.leaves a w.0, ltb→lt a (labels sh) v.0), ltb→lt m (2 ^ sh.tracks) u.0, ltb→lt x c s.0, ltb→lt y c s.1)

pub guarded_lawful : (sh : Shape) (c : ℕ) (f : ℕ → ℕ → ℕ) (g : ℕ → ℕ → ℕ → ℕ → ℕ) (e : ℕ → Bool) → 1 ≤ c → c ≤ 2 ^ 32
    → ((a m : ℕ) → LeafLabel sh a → Marks sh m → f a m < c)
    → ((a m x y : ℕ) → InnerLabel sh a → Marks sh m → x < c → y < c → g a m x y < c)
    → Lawful (guarded sh c f g e)
guarded_lawful sh c f g e low high lf li = record {
  count_fits = (low, high);
  leaf_in = λ a m. if_in (leaf_asked sh a m) (f a m) c low (λ h. let w = leaf_told sh a m h in lf a m w.0 w.1);
  inner_in = λ a m x y. if_in (inner_asked sh c a m x y) (g a m x y) c low
      (λ h. let w = inner_told sh c a m x y h in li a m x y w.0 w.1 w.2 w.3);
  leaf_out = λ a m out. if_out (leaf_asked sh a m) (f a m) (λ h. out (leaf_told sh a m h));
  inner_out = λ a m x y out. if_out (inner_asked sh c a m x y) (g a m x y) (λ h. out (inner_told sh c a m x y h));
  final_out = λ x h. grind arith;
}
