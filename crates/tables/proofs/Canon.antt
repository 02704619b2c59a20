-- Automata accept the same trees exactly if their tables are the same.
use Rattle.std.proofs.Common.{◌≡◌, ℕ, ◌<◌, ◌↔◌, sym, refl, ap, ◌∙◌, subst, arith}
use Rattle.trees.specs.declared.shape.Shape.{Shape}
use Rattle.trees.specs.Trees.{Tree, Shaped}
use Rattle.automata.specs.Automata.{Automaton, code, accepts}
use Rattle.automata.specs.Numbering.{Table, own_table}
use Rattle.tables.specs.Tables.{SameTable, TableOf, table_automaton, AcceptSame}
use Rattle.tables.proofs.Contexts.{reached, alike_untold, untold_alike, accept_same_sym, accept_untold}
use Rattle.tables.proofs.SameTables.{same_trans, same_own}
use Rattle.tables.proofs.TableRuns.{state_at, state_lt, tree_at, same_accepts, table_accepts}
use Rattle.tables.proofs.Agreements.{Reads, states_agree, states_le, cells_agree}

reads : (M : Automaton) (T : Table) (o : TableOf M T) → Reads M.shape T (state_at M T o)
reads M T o = record {
  at_a_leaf = λ a m h k. sym (o.leaves a m h k);
  at_an_inner = λ a m l r h k p q. sym (o.inners a m (code M l) (code M r) h k (reached M l p) (reached M r q));
  below = state_lt M T o;
  onto = tree_at M T o;
  met = o.met;
}

-- trees of one state of M have one state of M'
kernel_of : (M M' : Automaton) (A B : Table) (o : TableOf M A) (o' : TableOf M' B) → M.shape ≡ M'.shape → AcceptSame M M'
    → (t u : Tree) → Shaped M.shape t → Shaped M.shape u → state_at M A o t ≡ state_at M A o u → state_at M' B o' t ≡ state_at M' B o' u
kernel_of M M' A B o o' e agrees t u h k z =
    (o'.classes (code M' t) (code M' u) (reached M' t h') (reached M' u k')).1
    (untold_alike M' t u (accept_untold M' M (sym e) (accept_same_sym M M' e agrees) t u h' k'
    (alike_untold M t u ((o.classes (code M t) (code M u) (reached M t h) (reached M u k)).0 z))))
  where
    h' : Shaped M'.shape t
    h' = subst (λ (sh : Shape). Shaped sh t) e h

    k' : Shaped M'.shape u
    k' = subst (λ (sh : Shape). Shaped sh u) e k

module _ (M M' : Automaton) (A B : Table) (e : M.shape ≡ M'.shape) (o : TableOf M A) (o' : TableOf M' B) where
  pub same_table : AcceptSame M M' → SameTable M.shape A B
  same_table agrees = record {
    states = omega (arith, states_le M.shape A B α β Ra RB kernel, states_le M.shape B A β α RB Ra (λ t u h k. ((kernel t u h k).1, (kernel t u h k).0)));
    final = final;
    cells = cells_agree M.shape A B α β Ra RB kernel;
  }
    where
      α : Tree → ℕ
      α = state_at M A o

      β : Tree → ℕ
      β = state_at M' B o'

      Ra : Reads M.shape A α
      Ra = reads M A o

      RB : Reads M.shape B β
      RB = subst (λ (sh : Shape). Reads sh B β) (sym e) (reads M' B o')

      kernel : (t u : Tree) → Shaped M.shape t → Shaped M.shape u → (α t ≡ α u) ↔ (β t ≡ β u)
      kernel t u h k = (
        kernel_of M M' A B o o' e agrees t u h k,
        kernel_of M' M B A o' o (sym e) (accept_same_sym M M' e agrees) t u
            (subst (λ (sh : Shape). Shaped sh t) e h) (subst (λ (sh : Shape). Shaped sh u) e k),
      )

      final : (s : ℕ) → s < A.states → A.final s ≡ B.final s
      final s h =
          let w = Ra.onto s h in
          let t = w.0 in
          ap A.final (sym w.2) ∙ (o.finals (code M t) (reached M t w.1) ∙ (agrees t w.1
          ∙ (sym (o'.finals (code M' t) (reached M' t (subst (λ (sh : Shape). Shaped sh t) e w.1)))
          ∙ ap B.final (states_agree M.shape A B α β Ra RB kernel t w.1 ∙ w.2))))

  pub accept_same : SameTable M.shape A B → AcceptSame M M'
  accept_same same t h =
      sym (same_accepts M A o X (same_trans M.shape A B (own_table X) same (same_own M.shape B)) t h)
      ∙ (ap (λ (sh : Shape). accepts (table_automaton sh B) t) e ∙ table_accepts M' B o' t (subst (λ (sh : Shape). Shaped sh t) e h))
    where
      X : Automaton
      X = table_automaton M.shape B

pub one_table : (M : Automaton) (A B : Table) → TableOf M A → TableOf M B → SameTable M.shape A B
one_table M A B o o' = same_table M M A B refl o o' (λ t h. refl)
