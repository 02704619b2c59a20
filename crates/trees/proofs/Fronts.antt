-- A refusal at a node names the first node with which no listing goes on.
use Rattle.std.proofs.Common.{◌≡◌, ℕ, zero, suc, ◌+◌, ◌*◌, ◌%◌, ◌^◌, ◌≤◌, Bool, true, false, not, ◌&&◌, ◌||◌, eqb, ltb, leb, List, [], ◌∷◌, ◌++◌, length, take, Some, None, Option, sym, refl, ap, ◌∙◌, subst, append_assoc, append-nil, arith, pow_pos}
use Rattle.std.proofs.lemmas.Bool.{leb-true, le-leb, eq-eqb, and_parts, and_from}
use Rattle.std.proofs.lemmas.List.{length-append}
use Rattle.trees.specs.declared.shape.Shape.{Shape}
use Rattle.trees.specs.declared.refusal.Refusal.{Refusal}
use Rattle.trees.specs.declared.refusal.Reason.TheVariants.{BadLength, UnknownLabel, UnknownMarks, MissingParts, StackFull, NotOneTree}
use Rattle.trees.specs.Shapes.{labels, Limited}
use Rattle.trees.specs.Trees.{Tree, leaf, inner, listing}
use Rattle.trees.specs.Stacks.{grown}
use Rattle.trees.specs.Reading.{check, or_else, node_refusal, opened, rest_refusal, first_refusal, GoesOn, front, AtNode, Stops, Reads, Answers, refusal}
use Rattle.trees.proofs.Limits.{bounds}
use Rattle.trees.proofs.Turns.{passed, fine, grown_length, opened_pos}
use Rattle.trees.proofs.Listed.{free_at, above_join, spelled, Held, held_grown, spelled_grown, read_listing, listed, one_tree}

-- the first n + 1 nodes begin with a node
front_more : (n a m : ℕ) (bs : List ℕ) → front (suc n) (a ∷ m ∷ bs) ≡ a ∷ m ∷ front n bs
front_more n a m bs = ap (λ (x : ℕ). take x (a ∷ m ∷ bs)) (let e : suc n * 2 ≡ suc (suc (n * 2)) = omega arith in e)

spelled_then : (ts : List Tree) (bs rest : List ℕ) → spelled ts bs ++ rest ≡ spelled ts (bs ++ rest)
spelled_then [] bs rest = refl
spelled_then (t ∷ ts) bs rest = spelled_then ts (listing t ++ bs) rest ∙ ap (spelled ts) (append_assoc (listing t) bs rest)

some_inj : (x e : Refusal) → Some x ≡ Some e → x ≡ e
some_inj x e h = cc

not_none : (e : Refusal) → None ≡ Some e → ⊥
not_none e h = cc

abbrev Placed : ℕ → Option Refusal → Type 0
Placed k None = Unit {0}
Placed k (Some e) = e.place ≡ k

placed_check : (k : ℕ) (ok : Bool) (e : Refusal) (rest : Option Refusal) → e.place ≡ k → Placed k rest → Placed k (check ok e rest)
placed_check k true e rest p q = q
placed_check k false e rest p q = p

module _ (sh : Shape) (room : ℕ → Bool) where
  -- held parts can be joined to one tree, whatever their number
  closes : 1 ≤ sh.inners → (t : Tree) (ts : List Tree) → Held sh room (t ∷ ts) → GoesOn sh room (spelled (t ∷ ts) [])
  closes i t [] h =
      (t, [], h.0, (λ p l. free_at room (omega arith) (h.1 p l)), append-nil (listing t ++ []) ∙ append-nil (listing t))
  closes i t (u ∷ ts) h =
      let top = inner sh.leaves 0 u t in
      let held : Held sh room (top ∷ ts)
      = (
        ((omega arith, omega arith), pow_pos sh.tracks, h.2.0, h.0),
        above_join sh room (length ts) sh.leaves 0 u t h.2.1 (λ p l. free_at room (omega arith) (h.1 p l)),
        h.2.2,
      ) in
      let on = closes i top ts held in (
        on.0,
        sh.leaves ∷ 0 ∷ on.1,
        on.2,
        on.3,
        spelled_then ts (listing u ++ (listing t ++ [])) (sh.leaves ∷ 0 ∷ on.1)
            ∙ (ap (spelled ts) (split u t on.1)
            ∙ (sym (spelled_then ts (listing top ++ []) on.1) ∙ on.4)),
      )
    where
      split : (u t : Tree) (more : List ℕ) → (listing u ++ (listing t ++ [])) ++ (sh.leaves ∷ 0 ∷ more) ≡ (listing (inner sh.leaves 0 u t) ++ []) ++ more
      split u t more = simp (append_assoc, append-nil)

  -- what is due at one node says its place
  node_place : (k n a m : ℕ) (e : Refusal) → node_refusal sh room k n a m ≡ Some e → e.place ≡ k
  node_place k n a m e h =
      subst (Placed k) h
      (placed_check k (ltb a (labels sh)) (refusal UnknownLabel k) _ refl
      (placed_check k (ltb m (2 ^ sh.tracks)) (refusal UnknownMarks k) _ refl
      (placed_check k (ltb a sh.leaves || leb 2 n) (refusal MissingParts k) _ refl
      (placed_check k (not (ltb a sh.leaves) || room n) (refusal StackFull k) None refl tt))))

  -- a refusal at a node n nodes on
  record Due (k height : ℕ) (bs : List ℕ) (e : Refusal) : Type 0 where
    on : ℕ
    is : e.place ≡ k + on
    there : (on + 1) * 2 ≤ length bs
    stays : (more : List ℕ) → rest_refusal sh room k height (front (suc on) bs ++ more) ≡ Some e

  due : (bs : List ℕ) (k n : ℕ) (e : Refusal) → rest_refusal sh room k n bs ≡ Some e → AtNode e.reason → Due k n bs e
  due [] k n e h at = absurd (end (eqb n 1) h)
    where
      end : (b : Bool) → check b (refusal NotOneTree k) None ≡ Some e → ⊥
      end true h = not_none e h
      end false h = let w = subst (λ (x : Refusal). AtNode x.reason) (sym (some_inj _ e h)) at in omega (arith, w.1)
  due (a ∷ []) k n e h at = absurd (let w = subst (λ (x : Refusal). AtNode x.reason) (sym (some_inj _ e h)) at in omega (arith, w.0))
  due (a ∷ m ∷ bs) k n e h at = go (λ h. due bs (k + 1) (opened sh n a) e h at) (node_refusal sh room k n a m) refl h
    where
      go : (rest_refusal sh room (k + 1) (opened sh n a) bs ≡ Some e → Due (k + 1) (opened sh n a) bs e)
          → (o : Option Refusal) → node_refusal sh room k n a m ≡ o → or_else o (rest_refusal sh room (k + 1) (opened sh n a) bs) ≡ Some e → Due k n (a ∷ m ∷ bs) e
      go later None eq h =
          let d = later h in
          record {
            on = suc d.on;
            is = omega (arith, d.is);
            there = omega (arith, d.there);
            stays = λ more. ap (λ (x : List ℕ). rest_refusal sh room k n (x ++ more)) (front_more (suc d.on) a m bs)
                ∙ (ap (λ (o : Option Refusal). or_else o (rest_refusal sh room (k + 1) (opened sh n a) (front (suc d.on) bs ++ more))) eq ∙ d.stays more);
          }
      go later (Some x) eq h =
          record {
            on = 0;
            is = ap (λ (y : Refusal). y.place) (sym (some_inj x e h)) ∙ (node_place k n a m x eq ∙ (omega arith));
            there = omega arith;
            stays = λ more. ap (λ (y : List ℕ). rest_refusal sh room k n (y ++ more)) (front_more 0 a m bs)
                ∙ (ap (λ (o : Option Refusal). or_else o (rest_refusal sh room (k + 1) (opened sh n a) (front 0 bs ++ more))) eq ∙ h);
          }

  -- the nodes before it go on
  goes_on : 1 ≤ sh.inners → (j : ℕ) (bs : List ℕ) (ts : List Tree) (k : ℕ) (e : Refusal) → Held sh room ts → rest_refusal sh room k (length ts) bs ≡ Some e
      → AtNode e.reason → k + j ≤ e.place → 1 ≤ length ts + j → GoesOn sh room (spelled ts (front j bs))
  goes_on i zero bs ts k e held h at le some = start ts held some
    where
      start : (us : List Tree) → Held sh room us → 1 ≤ length us + 0 → GoesOn sh room (spelled us [])
      start [] held some = absurd (omega arith)
      start (t ∷ us) held some = closes i t us held
  goes_on i (suc j) [] ts k e held h at le some = let d = due [] k (length ts) e h at in absurd (omega (arith, d.there))
  goes_on i (suc j) (a ∷ []) ts k e held h at le some = let d = due (a ∷ []) k (length ts) e h at in absurd (omega (arith, d.there))
  goes_on i (suc j) (a ∷ m ∷ bs) ts k e held h at le some =
      go (λ us ok h some. goes_on i j bs us (k + 1) e ok h at (omega arith) some) (node_refusal sh room k (length ts) a m) refl h
    where
      go : ((us : List Tree) → Held sh room us → rest_refusal sh room (k + 1) (length us) bs ≡ Some e → 1 ≤ length us + j → GoesOn sh room (spelled us (front j bs)))
          → (o : Option Refusal) → node_refusal sh room k (length ts) a m ≡ o → or_else o (rest_refusal sh room (k + 1) (opened sh (length ts) a) bs) ≡ Some e
          → GoesOn sh room (spelled ts (front (suc j) (a ∷ m ∷ bs)))
      go later None eq h =
          let f = fine sh room k (length ts) a m eq in
          let n = grown_length sh room (length ts) a m ts f refl in
          subst (GoesOn sh room) (spelled_grown sh room a m ts (front j bs) f ∙ ap (spelled ts) (sym (front_more j a m bs)))
          (later (grown sh.leaves a m ts) (held_grown sh room a m ts held f)
          (ap (λ (x : ℕ). rest_refusal sh room (k + 1) x bs) n ∙ h) (omega (arith, n, opened_pos sh room (length ts) a m f)))
      go later (Some x) eq h = absurd (let p = node_place k (length ts) a m x eq in let q = ap (λ (y : Refusal). y.place) (some_inj x e h) in omega arith)

  stops : Limited sh → (bs : List ℕ) (e : Refusal) → rest_refusal sh room 0 0 bs ≡ Some e → AtNode e.reason → Stops sh room bs e.place
  stops ok bs e h at =
      let d = due bs 0 0 e h at in
      let p : e.place ≡ d.on = omega (arith, d.is) in
      let i : 1 ≤ sh.inners = (bounds sh ok).inners.0 in
      record {
        there = omega (arith, d.there, p);
        before = λ n some le. goes_on i n bs [] 0 e tt h at (omega arith) (omega arith);
        here = λ on. not_none e (sym (read_listing sh room on.0 on.2 on.3) ∙ (ap (rest_refusal sh room 0 0) (sym on.4)
            ∙ (ap (λ (x : ℕ). rest_refusal sh room 0 0 (front x bs ++ on.1)) (let q : e.place + 1 ≡ suc d.on = omega arith in q) ∙ d.stays on.1)));
      }

  even : (t : Tree) → length (listing t) % 2 ≡ 0
  even (leaf a m) = refl
  even (inner a m l r) = simp length-append (omega (arith, even l, even r))

  due_short : (bs : List ℕ) (e : Refusal) → first_refusal sh room bs ≡ Some e → AtNode e.reason → rest_refusal sh room 0 0 bs ≡ Some e
  due_short bs e h at = go (leb (length bs) 8192 && eqb (length bs % 2) 0) h
    where
      go : (b : Bool) → check b (refusal BadLength 0) (rest_refusal sh room 0 0 bs) ≡ Some e → rest_refusal sh room 0 0 bs ≡ Some e
      go true h = h
      go false h = absurd (let w = subst (λ (x : Refusal). AtNode x.reason) (sym (some_inj _ e h)) at in omega (arith, w.0))

pub answers : (sh : Shape) (room : ℕ → Bool) (bs : List ℕ) → Answers sh room bs
answers sh room bs = record {
  reads = (fore, back);
  one_tree = λ t u p q. one_tree sh t u p.shaped q.shaped (sym p.listed ∙ q.listed);
  stops = λ ok e h at. stops sh room ok bs e (due_short sh room bs e h at) at;
}
  where
    fore : first_refusal sh room bs ≡ None → (t : Tree) × Reads sh room bs t
    fore e =
        let p = passed _ _ _ e in
        let w = listed sh room bs p.1 in
        (w.0, record { shaped = w.1; stacked = w.2; listed = w.3; short = leb-true (length bs) 8192 (and_parts _ _ p.0).0 })

    back : (t : Tree) × Reads sh room bs t → first_refusal sh room bs ≡ None
    back (t, r) =
        ap (λ (b : Bool). check b (refusal BadLength 0) (rest_refusal sh room 0 0 bs))
        (and_from _ _ (le-leb (length bs) 8192 r.short) (eq-eqb (length bs % 2) 0 (ap (λ (x : List ℕ). length x % 2) r.listed ∙ even sh room t)))
        ∙ (ap (rest_refusal sh room 0 0) r.listed ∙ read_listing sh room t r.shaped r.stacked)
