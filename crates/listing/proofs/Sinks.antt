-- One byte more is counted, and one byte more is written.
use Rattle.std.proofs.Common.{◌≡◌, ℕ, suc, ◌+◌, ◌%◌, ◌^◌, ◌<◌, ◌≤◌, List, [], ◌∷◌, ◌++◌, length, get_or, take, drop, set, sym, ap, ◌∙◌, append_assoc, add-zero, mod-eq_of_lt, arith, length-append, length-drop, take-append-drop, length-take-le, drop-cons}
use lib.Seq.{set_at}
use Rattle.listing.specs.Sinks.{Counted, Pasted, placed}

length_push : (cs : List ℕ) (b : ℕ) → length (cs ++ (b ∷ [])) ≡ length cs + 1
length_push cs b = length-append cs (b ∷ [])

pub counted_more : (m n k b : ℕ) (cs : List ℕ) → k ≡ (n + 1) % 2 ^ 64 → Counted m n cs → Counted m k (cs ++ (b ∷ []))
counted_more m n k b cs e h small =
    let l = length_push cs b in
    let was : n ≡ m + length cs = h (omega (arith, l, small)) in
    let z : (n + 1) % 2 ^ 64 ≡ n + 1 = mod-eq_of_lt (omega (arith, l, small, was)) in
    omega (arith, e, z, l, was)

module _ (i j b : ℕ) (xs ys cs : List ℕ) (was : Pasted i xs j ys cs) where
  front : i + length cs ≤ length xs → length (take i xs ++ cs) ≡ i + length cs
  front h =
      let low : i ≤ length xs = omega (arith, h) in
      let l = length-append (take i xs) cs in
      let t = length-take-le i xs low in
      omega (arith, l, t)

  as_long : i + length cs ≤ length xs → length ys ≡ length xs
  as_long h =
      let e = append_assoc (take i xs) cs (drop (i + length cs) xs) in
      let l = length-append (take i xs ++ cs) (drop (i + length cs) xs) in
      let d = length-drop (i + length cs) xs in
      omega (arith, ap length (was h).1, ap length e, l, d, front h, h)

  pub pasted_more : Pasted i xs (j + 1) (set ys j b) (cs ++ (b ∷ []))
  pasted_more room =
      let l = length_push cs b in
      let h : i + length cs < length xs = omega (arith, l, room) in
      let low : i + length cs ≤ length xs = omega (arith, h) in
      let w = was low in
      let at = set_at (take i xs ++ cs) (get_or xs (i + length cs) 0) (drop (suc (i + length cs)) xs) b (i + length cs) (front low) in
      let cut = drop-cons xs (i + length cs) 0 h in
      let p = append_assoc (take i xs) cs (drop (i + length cs) xs) in
      let q = append_assoc (take i xs) cs (b ∷ drop (suc (i + length cs)) xs) in
      let r = append_assoc cs (b ∷ []) (drop (suc (i + length cs)) xs) in
      let k : suc (i + length cs) ≡ i + length (cs ++ (b ∷ [])) = omega (arith, l) in
      (omega (arith, l, w.0), cc (w.0, w.1))

  pub pasted_full : length ys ≤ j → Pasted i xs j ys (cs ++ (b ∷ []))
  pasted_full full room =
      let l = length_push cs b in
      let low : i + length cs ≤ length xs = omega (arith, l, room) in
      absurd (omega (arith, l, room, full, as_long low, (was low).0))

pub pasted_none : (i : ℕ) (xs : List ℕ) → Pasted i xs i xs []
pasted_none i xs _ = (omega arith, rw add-zero (sym (take-append-drop i xs)))

pub pasted_front : (j : ℕ) (xs ys bs : List ℕ) → Pasted 0 xs j ys bs → length bs ≤ length xs → ys ≡ placed bs xs
pasted_front j xs ys bs h room = let z : 0 + length bs ≡ length bs = omega arith in (h (omega arith)).1 ∙ ap (λ (n : ℕ). bs ++ drop n xs) z

pub counted_all : (n : ℕ) (bs : List ℕ) → Counted 0 n bs → length bs < 2 ^ 64 → n ≡ length bs
counted_all n bs h small = let z = h (omega arith) in omega (arith, z)
