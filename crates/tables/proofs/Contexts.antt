-- Trees and contexts in the open place of a context, and what alike codes make there.
use Rattle.std.proofs.Common.{◌≡◌, ℕ, sym, refl, ap, ◌∙◌, subst}
use Rattle.trees.specs.declared.shape.Shape.{Shape}
use Rattle.trees.specs.Shapes.{InnerLabel, Marks}
use Rattle.trees.specs.Trees.{Tree, Shaped}
use Rattle.automata.specs.Automata.{Automaton, code, accepts, Reached, Context, hole, in_left, in_right, ContextShaped, fill, code_in, Alike}
use Rattle.automata.proofs.Codes.{code_fill}
use Rattle.tables.specs.Tables.{AcceptSame}

pub reached : (M : Automaton) (t : Tree) → Shaped M.shape t → Reached M (code M t)
reached M t h = (t, h, refl)

fill_shaped : (sh : Shape) (c : Context) (t : Tree) → ContextShaped sh c → Shaped sh t → Shaped sh (fill c t)
fill_shaped sh hole t h k = k
fill_shaped sh (in_left a m c r) t h k = (h.0, h.1, fill_shaped sh c t h.2 k, h.3)
fill_shaped sh (in_right a m l c) t h k = (h.0, h.1, h.2, fill_shaped sh c t h.3 k)

-- no context of the shape tells the two trees apart
abbrev pub Untold : Automaton → Tree → Tree → Type 0
Untold M t u = (c : Context) → ContextShaped M.shape c → accepts M (fill c t) ≡ accepts M (fill c u)

pub alike_untold : (M : Automaton) (t u : Tree) → Alike M (code M t) (code M u) → Untold M t u
alike_untold M t u h c k = ap M.final (sym (code_fill M c t)) ∙ (h c k ∙ ap M.final (code_fill M c u))

pub untold_alike : (M : Automaton) (t u : Tree) → Untold M t u → Alike M (code M t) (code M u)
untold_alike M t u h c k = ap M.final (code_fill M c t) ∙ (h c k ∙ ap M.final (sym (code_fill M c u)))

pub accept_same_sym : (M M' : Automaton) → M.shape ≡ M'.shape → AcceptSame M M' → AcceptSame M' M
accept_same_sym M M' e agrees t h = sym (agrees t (subst (λ (sh : Shape). Shaped sh t) (sym e) h))

pub accept_untold : (M M' : Automaton) → M.shape ≡ M'.shape → AcceptSame M M' → (t u : Tree) → Shaped M.shape t → Shaped M.shape u
    → Untold M' t u → Untold M t u
accept_untold M M' e agrees t u h k un c l =
    agrees (fill c t) (fill_shaped M.shape c t l h)
    ∙ (un c (subst (λ (sh : Shape). ContextShaped sh c) e l) ∙ sym (agrees (fill c u) (fill_shaped M.shape c u l k)))

-- the context d in the open place of c
abbrev pub into : Context → Context → Context
into hole d = d
into (in_left a m c r) d = in_left a m (into c d) r
into (in_right a m l c) d = in_right a m l (into c d)

pub code_into : (M : Automaton) (c d : Context) (x : ℕ) → code_in M (into c d) x ≡ code_in M c (code_in M d x)
code_into M hole d x = refl
code_into M (in_left a m c r) d x = ap (λ (y : ℕ). M.inner_step a m y (code M r)) (code_into M c d x)
code_into M (in_right a m l c) d x = ap (M.inner_step a m (code M l)) (code_into M c d x)

pub into_shaped : (sh : Shape) (c d : Context) → ContextShaped sh c → ContextShaped sh d → ContextShaped sh (into c d)
into_shaped sh hole d h k = k
into_shaped sh (in_left a m c r) d h k = (h.0, h.1, into_shaped sh c d h.2 k, h.3)
into_shaped sh (in_right a m l c) d h k = (h.0, h.1, h.2, into_shaped sh c d h.3 k)

alike_in : (M : Automaton) (d : Context) (x y : ℕ) → ContextShaped M.shape d → Alike M x y → Alike M (code_in M d x) (code_in M d y)
alike_in M d x y k h c l =
    ap M.final (sym (code_into M c d x)) ∙ (h (into c d) (into_shaped M.shape c d l k) ∙ ap M.final (code_into M c d y))

-- steps on alike codes are alike: first the left code is exchanged, then the right one
pub steps_alike : (M : Automaton) (a m x y x' y' : ℕ) → InnerLabel M.shape a → Marks M.shape m → Reached M y → Reached M x'
    → Alike M x x' → Alike M y y' → Alike M (M.inner_step a m x y) (M.inner_step a m x' y')
steps_alike M a m x y x' y' h k ry rx p q c l =
    subst (λ (v : ℕ). M.final (code_in M c (M.inner_step a m x v)) ≡ M.final (code_in M c (M.inner_step a m x' v))) ry.2
    (alike_in M (in_left a m hole ry.0) x x' (h, k, tt, ry.1) p c l)
    ∙ subst (λ (v : ℕ). M.final (code_in M c (M.inner_step a m v y)) ≡ M.final (code_in M c (M.inner_step a m v y'))) rx.2
    (alike_in M (in_right a m rx.0 hole) y y' (h, k, rx.1, tt) q c l)
