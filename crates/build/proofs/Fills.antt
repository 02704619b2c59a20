-- A part of a list filled, one byte more at a time.
use Rattle.std.proofs.Common.{◌≡◌, ℕ, ◌+◌, ◌-◌, take, drop, length-drop, length-take-le, ◌<◌, ◌≤◌, List, length, get_or, set, sym, ap, ◌∙◌, subst, inl, inr, rules, arith}
use native.Mathlib.Decide.{dec_lt}
use borrow.Rule.Slice.PartMut.{put_mid}
use Rattle.std.proofs.lemmas.List.{places, get_or-set_same, get_or-set_other}
use Rattle.build.specs.Imaging.{Filled}

pub filled_more : (base n : ℕ) (f : ℕ → ℕ) (xs ys : List ℕ) (at v : ℕ) → Filled base n f xs ys → at ≡ base + n → at < length ys → v ≡ f n → Filled base (n + 1) f xs (set ys at v)
filled_more base n f xs ys at v fl e low is = record {
  inside = λ i h. go i h (dec_lt i n);
  outside = λ j h. get_or-set_other ys at j v 0 (λ z. elim h [ inl l ↦ omega (arith, l, z, e) | inr l ↦ omega (arith, l, z, e) ])
      ∙ fl.outside j (elim h [ inl l ↦ inl l | inr l ↦ inr (omega (arith, l)) ]);
}
  where
    go : (i : ℕ) → i < n + 1 → Dec (i < n) → get_or (set ys at v) (base + i) 0 ≡ f i
    go i h (yes l) = get_or-set_other ys at (base + i) v 0 (λ z. omega (arith, z, e, l)) ∙ fl.inside i l
    go i h (no l) =
        let z : n ≡ i = omega arith in
        subst (λ (k : ℕ). get_or (set ys at v) (base + k) 0 ≡ f k) z (ap (λ (k : ℕ). get_or (set ys at v) k 0) (sym e) ∙ (get_or-set_same ys at v 0 low ∙ is))

pub filled_at : {base n m : ℕ} {f : ℕ → ℕ} {xs ys : List ℕ} → n ≡ m → Filled base n f xs ys → Filled base m f xs ys
filled_at {base} {n} {m} {f} {xs} {ys} e fl = subst (λ (k : ℕ). Filled base k f xs ys) e fl

-- what stands past the finals is as it was
pub past_finals : (N k : ℕ) (f : ℕ → ℕ) (xs ys : List ℕ) → Filled 1 N f (set xs 0 k) ys → (j : ℕ) → 1 + N ≤ j → get_or ys j 0 ≡ get_or xs j 0
past_finals N k f xs ys fl j h = fl.outside j (inr h) ∙ get_or-set_other xs 0 j k 0 (λ z. omega (arith, z, h))

-- a part that is written by itself
filled_part : (base n : ℕ) (f : ℕ → ℕ) (xs ys : List ℕ) → base + n ≤ length xs → length ys ≡ n → ((i : ℕ) → i < n → get_or ys i 0 ≡ f i)
    → Filled base n f xs (put_mid base n xs ys)
filled_part base n f xs ys lent long is = record {
  inside = λ i h. let e : get_or (put_mid base n xs ys) (base + i) 0 ≡ get_or ys i 0 = search (rules, places) in e ∙ is i h;
  outside = λ j h. elim h [ inl l ↦ before j l | inr l ↦ after j l ];
}
  where
    before : (j : ℕ) → j < base → get_or (put_mid base n xs ys) j 0 ≡ get_or xs j 0
    before j l = search (rules, places)

    after : (j : ℕ) → base + n ≤ j → get_or (put_mid base n xs ys) j 0 ≡ get_or xs j 0
    after j l = search (rules, places)

-- a part b to e that is lent as `&mut xs[b..e]`
abbrev pub lent_part : ℕ → ℕ → List ℕ → List ℕ
lent_part b e xs = take (e - b) (drop b xs)

pub part_reads : (b e i : ℕ) (xs : List ℕ) → b + i < e → get_or (lent_part b e xs) i 0 ≡ get_or xs (b + i) 0
part_reads b e i xs h = search (rules, places)

pub part_long : (b e n : ℕ) (xs : List ℕ) → b + n ≡ e → e ≤ length xs → length (lent_part b e xs) ≡ n
part_long b e n xs is lent = omega (arith, length-take-le (e - b) (drop b xs) (omega (arith, length-drop b xs)))

pub lent_filled : (b e n : ℕ) (f : ℕ → ℕ) (xs ys : List ℕ) → b + n ≡ e → e ≤ length xs → length ys ≡ length (lent_part b e xs)
    → ((i : ℕ) → i < length (lent_part b e xs) → get_or ys i 0 ≡ f i) → Filled b n f xs (put_mid b (e - b) xs ys)
lent_filled b e n f xs ys is lent long at =
    let m : e - b ≡ n = omega arith in
    let l = part_long b e n xs is lent in
    subst (λ (k : ℕ). Filled b n f xs (put_mid b k xs ys)) (sym m) (filled_part b n f xs ys (omega arith) (long ∙ l) (λ i h. at i (omega (arith, h, l))))
