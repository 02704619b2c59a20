-- Refining classes: stable classes are of alike codes, and codes that are told apart are not alike.
use Rattle.std.proofs.Common.{◌≡◌, ℕ, ◌<◌, ◌≢◌, sym, refl, ap, ◌∙◌, subst, ap₂}
use Rattle.trees.specs.Shapes.{InnerLabel, Marks}
use Rattle.automata.specs.Automata.{Automaton, Context, hole, in_left, in_right, ContextShaped, code_in, Alike}
use Rattle.automata.specs.Numbering.{Table, at_inner}
use Rattle.tables.specs.Exploring.{Explored}
use Rattle.tables.specs.Merging.{Told, Stable}
use Rattle.tables.proofs.Contexts.{into, code_into, into_shaped}
use Rattle.tables.proofs.Founds.{index, found_reached}

pub told_not_alike : (M : Automaton) (x y : ℕ) → Told M x y → ¬ Alike M x y
told_not_alike M x y w al = w.2 (al w.0 w.1)

pub told_final : (M : Automaton) (x y : ℕ) → M.final x ≢ M.final y → Told M x y
told_final M x y h = (hole, tt, h)

-- what is told apart behind d is told apart before it
told_in : (M : Automaton) (d : Context) (x y : ℕ) → ContextShaped M.shape d → Told M (code_in M d x) (code_in M d y) → Told M x y
told_in M d x y k w = (
  into w.0 d,
  into_shaped M.shape w.0 d w.1 k,
  λ e. w.2 (ap M.final (sym (code_into M w.0 d x)) ∙ (e ∙ ap M.final (code_into M w.0 d y))),
)

module _ (M : Automaton) (codes : ℕ → ℕ) (E : Table) (ex : Explored M codes E) where
  inner_is : (a m x y : ℕ) → InnerLabel M.shape a → Marks M.shape m → x < E.states → y < E.states
      → codes (E.inner_cell a m x y) ≡ M.inner_step a m (codes x) (codes y)
  inner_is a m x y h k hx hy = ex.is (at_inner a m x y) (h, k, hx, hy)

  -- steps that are told apart tell their sources apart
  pub told_left : (a m x y z : ℕ) → InnerLabel M.shape a → Marks M.shape m → x < E.states → y < E.states → z < E.states
      → Told M (codes (E.inner_cell a m x z)) (codes (E.inner_cell a m y z)) → Told M (codes x) (codes y)
  told_left a m x y z h k hx hy hz w =
      let r = found_reached M codes E ex z hz in
      let at : (x : ℕ) → x < E.states → codes (E.inner_cell a m x z) ≡ code_in M (in_left a m hole r.0) (codes x)
      = λ x hx. inner_is a m x z h k hx hz ∙ ap (M.inner_step a m (codes x)) (sym r.2) in
      told_in M (in_left a m hole r.0) (codes x) (codes y) (h, k, tt, r.1)
      (subst (Told M (code_in M (in_left a m hole r.0) (codes x))) (at y hy) (subst (λ (v : ℕ). Told M v (codes (E.inner_cell a m y z))) (at x hx) w))

  pub told_right : (a m x y z : ℕ) → InnerLabel M.shape a → Marks M.shape m → x < E.states → y < E.states → z < E.states
      → Told M (codes (E.inner_cell a m z x)) (codes (E.inner_cell a m z y)) → Told M (codes x) (codes y)
  told_right a m x y z h k hx hy hz w =
      let r = found_reached M codes E ex z hz in
      let at : (x : ℕ) → x < E.states → codes (E.inner_cell a m z x) ≡ code_in M (in_right a m r.0 hole) (codes x)
      = λ x hx. inner_is a m z x h k hz hx ∙ ap (λ (v : ℕ). M.inner_step a m v (codes x)) (sym r.2) in
      told_in M (in_right a m r.0 hole) (codes x) (codes y) (h, k, r.1, tt)
      (subst (Told M (code_in M (in_right a m r.0 hole) (codes x))) (at y hy) (subst (λ (v : ℕ). Told M v (codes (E.inner_cell a m z y))) (at x hx) w))

  module _ (class : ℕ → ℕ) (st : Stable M codes E class) where
    -- where two indices of one class come to in the open place of c
    record Through (c : Context) (x y : ℕ) : Type 0 where
      u : ℕ
      v : ℕ
      u_in : u < E.states
      v_in : v < E.states
      u_is : codes u ≡ code_in M c (codes x)
      v_is : codes v ≡ code_in M c (codes y)
      same : class u ≡ class v

    through : (c : Context) → ContextShaped M.shape c → (x y : ℕ) → x < E.states → y < E.states → class x ≡ class y → Through c x y
    through hole k x y hx hy e = record { u = x; v = y; u_in = hx; v_in = hy; u_is = refl; v_is = refl; same = e }
    through (in_left a m c r) k x y hx hy e =
        let w = through c k.2 x y hx hy e in
        let z = index M codes E ex r k.3 in
        record {
          u = E.inner_cell a m w.u z.0;
          v = E.inner_cell a m w.v z.0;
          u_in = ex.inside (at_inner a m w.u z.0) (k.0, k.1, w.u_in, z.1);
          v_in = ex.inside (at_inner a m w.v z.0) (k.0, k.1, w.v_in, z.1);
          u_is = inner_is a m w.u z.0 k.0 k.1 w.u_in z.1 ∙ ap₂ (M.inner_step a m) w.u_is z.2;
          v_is = inner_is a m w.v z.0 k.0 k.1 w.v_in z.1 ∙ ap₂ (M.inner_step a m) w.v_is z.2;
          same = st.left_step a m w.u w.v z.0 k.0 k.1 w.u_in w.v_in z.1 w.same;
        }
    through (in_right a m l c) k x y hx hy e =
        let w = through c k.3 x y hx hy e in
        let z = index M codes E ex l k.2 in
        record {
          u = E.inner_cell a m z.0 w.u;
          v = E.inner_cell a m z.0 w.v;
          u_in = ex.inside (at_inner a m z.0 w.u) (k.0, k.1, z.1, w.u_in);
          v_in = ex.inside (at_inner a m z.0 w.v) (k.0, k.1, z.1, w.v_in);
          u_is = inner_is a m z.0 w.u k.0 k.1 z.1 w.u_in ∙ ap₂ (M.inner_step a m) z.2 w.u_is;
          v_is = inner_is a m z.0 w.v k.0 k.1 z.1 w.v_in ∙ ap₂ (M.inner_step a m) z.2 w.v_is;
          same = st.right_step a m w.u w.v z.0 k.0 k.1 w.u_in w.v_in z.1 w.same;
        }

    pub stable_alike : (x y : ℕ) → x < E.states → y < E.states → class x ≡ class y → Alike M (codes x) (codes y)
    stable_alike x y hx hy e c k =
        let w = through c k x y hx hy e in
        ap M.final (sym w.u_is) ∙ (st.final w.u w.v w.u_in w.v_in w.same ∙ ap M.final w.v_is)
