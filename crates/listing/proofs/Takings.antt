-- Texts taken one after another: fields, lines, and a text for each number.
use Rattle.std.proofs.Common.{◌≡◌, ℕ, ◌+◌, ◌/◌, ◌%◌, ◌^◌, ◌<◌, ◌≤◌, List, [], ◌∷◌, ◌++◌, map, decimal, sym, refl, ap, ◌∙◌, subst, append_assoc, append-nil, arith}
use Rattle.std.specs.List.{range_with_len}
use Rattle.std.proofs.lemmas.List.FromFn.{map-range_with_len_more}
use Rattle.std.proofs.lemmas.Fmt.{decimal_digit, decimal_step}
use Rattle.tables.specs.Texts.{fields, line, joined, over}
use Rattle.listing.specs.Sinks.{Takes}

fields_append : (xs ys : List ℕ) → fields (xs ++ ys) ≡ fields xs ++ fields ys
fields_append [] ys = refl
fields_append (x ∷ xs) ys = ap (λ (r : List ℕ). 44 ∷ r) (ap (λ (r : List ℕ). decimal x ++ r) (fields_append xs ys) ∙ sym (append_assoc (decimal x) (fields xs) (fields ys)))

joined_append : (xs ys : List (List ℕ)) → joined (xs ++ ys) ≡ joined xs ++ joined ys
joined_append [] ys = refl
joined_append (x ∷ xs) ys = ap (λ (r : List ℕ). x ++ r) (joined_append xs ys) ∙ sym (append_assoc x (joined xs) (joined ys))

pub over_more : (f : ℕ → List ℕ) (a n j : ℕ) → a + n ≡ j → over a (n + 1) f ≡ over a n f ++ f j
over_more f a n j e =
    ap joined (map-range_with_len_more f a n j e)
    ∙ (joined_append (map f (range_with_len a n)) (f j ∷ []) ∙ ap (λ (r : List ℕ). over a n f ++ r) (append-nil (f j)))

module _ {S : Type 0} {took : S → S → List ℕ → Type 0} where
  pub takes_is : {s t : S} {bs cs : List ℕ} → bs ≡ cs → Takes took s t bs → Takes took s t cs
  takes_is {s} {t} e h = subst (λ (r : List ℕ). Takes took s t r) e h

  pub takes_from : {s t u : S} {bs : List ℕ} → s ≡ t → Takes took s u bs → Takes took t u bs
  takes_from {s} {t} {u} {bs} e h = subst (λ (r : S). Takes took r u bs) e h

  pub takes_none : {s : S} → Takes took s s []
  takes_none {s} = record { on = λ r cs h. subst (λ (x : List ℕ). took r s x) (sym (append-nil cs)) h }

  pub takes_then : {s t u : S} {bs cs : List ℕ} → Takes took s t bs → Takes took t u cs → Takes took s u (bs ++ cs)
  takes_then {s} {t} {u} {bs} {cs} p q = record {
    on = λ r ds h. subst (λ (x : List ℕ). took r u x) (append_assoc ds bs cs) (q.on r (ds ++ bs) (p.on r ds h));
  }

  pub takes_all : {s t : S} {bs : List ℕ} → Takes took s t bs → took s s [] → took s t bs
  takes_all {s} {t} {bs} p h = p.on s [] h

  pub takes_fields : {s t u : S} (xs ys : List ℕ) → Takes took s t (fields xs) → Takes took t u (fields ys) → Takes took s u (fields (xs ++ ys))
  takes_fields {s} {t} {u} xs ys p q = takes_is (sym (fields_append xs ys)) (takes_then p q)

  pub takes_field : {s t u : S} (ns : List ℕ) (n : ℕ) → Takes took s t (fields ns) → Takes took t u (44 ∷ decimal n) → Takes took s u (fields (ns ++ (n ∷ [])))
  takes_field {s} {t} {u} ns n p q = takes_fields ns (n ∷ []) p (takes_is (ap (λ (r : List ℕ). 44 ∷ r) (sym (append-nil (decimal n)))) q)

  pub takes_line : {s t u v : S} {letter : ℕ} (ns : List ℕ) → Takes took s t (letter ∷ []) → Takes took t u (fields ns) → Takes took u v (10 ∷ [])
      → Takes took s v (line letter ns)
  takes_line {s} {t} {u} {v} {letter} ns p q r = takes_then p (takes_then q r)

  -- the text of one index more
  pub takes_over : {s t u : S} (f : ℕ → List ℕ) (a n j : ℕ) → a + n ≡ j → Takes took s t (over a n f) → Takes took t u (f j)
      → Takes took s u (over a (n + 1) f)
  takes_over {s} {t} {u} f a n j e p q = takes_is (sym (over_more f a n j e)) (takes_then p q)

-- the decimals of numbers of two and three digits
pub two_digits : (n : ℕ) → 10 ≤ n → n < 100 → decimal n ≡ (48 + n / 10 % 10) ∷ (48 + n % 10) ∷ []
two_digits n h k =
    let small : n < 2 ^ 64 = omega arith in
    let one = decimal_digit (n / 10) (omega arith) in
    let low : n / 10 % 10 ≡ n / 10 = omega arith in
    decimal_step n h small ∙ ap (λ (ds : List ℕ). ds ++ ((48 + n % 10) ∷ [])) (one ∙ ap (λ (d : ℕ). (48 + d) ∷ []) (sym low))

pub three_digits : (n : ℕ) → 100 ≤ n → n < 256 → decimal n ≡ (48 + n / 100) ∷ (48 + n / 10 % 10) ∷ (48 + n % 10) ∷ []
three_digits n h k =
    let small : n < 2 ^ 64 = omega arith in
    let high : n / 10 / 10 % 10 ≡ n / 100 = omega arith in
    let two = two_digits (n / 10) (omega arith) (omega arith) in
    decimal_step n (omega arith) small
    ∙ ap (λ (ds : List ℕ). ds ++ ((48 + n % 10) ∷ [])) (two ∙ ap (λ (d : ℕ). (48 + d) ∷ (48 + n / 10 % 10) ∷ []) high)
