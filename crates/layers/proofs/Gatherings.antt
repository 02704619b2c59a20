-- A loop over the members of a set: what it has gathered, and what the members that are left have to give, make the whole.
use Rattle.std.proofs.Common.{◌≡◌, ℕ, ◌^◌, ◌<◌, ◌≤◌, Bool, true, false, ◌&&◌, ◌||◌, T, ◌⊎◌, MatchBool, sym, ap, ◌∙◌, subst, ap₂, inl, inr, arith, pow_pos, rules}
use lib.Bits.{bit_or, or_lt}
use Rattle.std.proofs.Math.Bool.{or_assoc, or-false}
use Rattle.std.proofs.lemmas.Bool.{cases_lt, both_ways}
use Rattle.std.proofs.lemmas.Float.{T_from_true}
use Rattle.trees.specs.Nodes.{bit}
use Rattle.trees.proofs.Bits.{bit_none, bit_zero}
use Rattle.automata.specs.Layers.{sum_of, any}
use Rattle.automata.proofs.Tests.{and_iff, or_iff}
use Rattle.automata.proofs.CodeSets.{sum_lt, bit_sum, any_in, any_of}
use Rattle.layers.specs.Sets.{gathered, Empty, Took}
use Rattle.layers.proofs.Sets.{sum_is, bit_of_or}

told : (b : Bool) → T b → b ≡ true
told b h = search rules

same_test : (a b : Bool) → (T a → T b) → (T b → T a) → a ≡ b
same_test a b f g = search rules

member_below : (x c X : ℕ) → X < 2 ^ c → bit x X ≡ true → x < c
member_below x c X h e = grind (arith, bit_none)

module _ (c : ℕ) (G : ℕ → ℕ → Bool) where
  gathered_in : (X x k : ℕ) → X < 2 ^ c → bit x X ≡ true → T (G x k) → T (gathered c G X k)
  gathered_in X x k h e g = any_in c _ x (member_below x c X h e) ((and_iff (bit x X) _).1 (T_from_true (bit x X) e, g))

  gathered_of : (X k : ℕ) → T (gathered c G X k) → (x : ℕ) × (bit x X ≡ true) × T (G x k)
  gathered_of X k h =
      let u = any_of c _ h in
      let w = (and_iff (bit u.0 X) _).0 u.2 in
      (u.0, told _ w.0, w.1)

  gathered_none : (X k : ℕ) → Empty X → gathered c G X k ≡ false
  gathered_none X k none = same_test _ false (λ h. let u = gathered_of X k h in absurd (both_ways _ (none u.0) u.1)) (λ h. absurd h)

  gathered_more : (X x Y k : ℕ) → X < 2 ^ c → Took X x Y → gathered c G X k ≡ (G x k || gathered c G Y k)
  gathered_more X x Y k h t = same_test _ _ to from
    where
      to : T (gathered c G X k) → T (G x k || gathered c G Y k)
      to z = let u = gathered_of X k z in go u.0 u.2 (t.others u.0 u.1)
        where
          go : (y : ℕ) → T (G y k) → (y ≡ x) ⊎ (bit y Y ≡ true) → T (G x k || gathered c G Y k)
          go y g (inl e) = (or_iff (G x k) _).1 (inl (subst (λ (z : ℕ). T (G z k)) e g))
          go y g (inr e) = (or_iff (G x k) _).1 (inr (gathered_in Y y k (let p = t.fewer in omega arith) e g))

      from : T (G x k || gathered c G Y k) → T (gathered c G X k)
      from z = go ((or_iff (G x k) _).0 z)
        where
          go : T (G x k) ⊎ T (gathered c G Y k) → T (gathered c G X k)
          go (inl g) = gathered_in X x k h t.member g
          go (inr g) = let u = gathered_of Y k g in gathered_in X u.0 k h (t.only u.0 u.1) u.2

  -- s is gathered from X, up to what Y has still to give
  pub record Gathering (X s Y : ℕ) : Type 0 where
    pub below : s < 2 ^ c
    pub left_below : Y < 2 ^ c
    pub whole : (k : ℕ) → k < c → (bit k s || gathered c G Y k) ≡ gathered c G X k

  pub gathering_none : (X Y : ℕ) → X < 2 ^ c → Y ≡ X → Gathering X 0 Y
  gathering_none X Y h e = record {
    below = pow_pos c;
    left_below = rw e h;
    whole = λ k _. ap₂ (λ (b : Bool) (Z : ℕ). b || gathered c G Z k) (bit_zero k) e;
  }

  pub gathering_more : (X s x Y Z r : ℕ) → Gathering X s Y → Took Y x Z → r ≡ sum_of (G x) c → Gathering X (bit_or s r) Z
  gathering_more X s x Y Z r i t e = record {
    below = or_lt c s r i.below (rw e (sum_lt (G x) c));
    left_below = let p = t.fewer in let q = i.left_below in omega arith;
    whole = λ k l.
        ap (λ (b : Bool). b || gathered c G Z k) (bit_of_or k s r ∙ ap (λ (b : Bool). bit k s || b) (ap (bit k) e ∙ bit_sum (G x) c k l))
        ∙ (or_assoc (bit k s) (G x k) (gathered c G Z k)
        ∙ (ap (λ (b : Bool). bit k s || b) (sym (gathered_more Y x Z k i.left_below t)) ∙ i.whole k l));
  }

  pub gathering_all : (X s Y : ℕ) → Gathering X s Y → Empty Y → s ≡ sum_of (gathered c G X) c
  gathering_all X s Y i none =
      sum_is (gathered c G X) c s i.below
      (λ k l. sym (or-false (bit k s)) ∙ (ap (λ (b : Bool). bit k s || b) (sym (gathered_none Y k none)) ∙ i.whole k l))

-- a test of the members, from what it found: past c there is no hit
pub any_is : (c X : ℕ) (F : ℕ → Bool) (r : Bool) → ((x : ℕ) → c ≤ x → F x ≡ false)
    → MatchBool r ((k : ℕ) × (bit k X ≡ true) × (F k ≡ true)) ((k : ℕ) → bit k X ≡ true → F k ≡ false)
    → r ≡ any c (λ x. bit x X && F x)
any_is c X F true out (k, e, f) = go (cases_lt k c)
  where
    go : (k < c) ⊎ (c ≤ k) → true ≡ any c (λ x. bit x X && F x)
    go (inl l) = sym (told _ (any_in c _ k l ((and_iff (bit k X) _).1 (T_from_true (bit k X) e, T_from_true (F k) f))))
    go (inr l) = absurd (both_ways (F k) (out k l) f)
any_is c X F false out w =
    same_test false _ (λ z. absurd z)
    (λ z.
    let u = any_of c _ z in
    let v = (and_iff (bit u.0 X) _).0 u.2 in
    both_ways (F u.0) (w u.0 (told _ v.0)) (told _ v.1))
