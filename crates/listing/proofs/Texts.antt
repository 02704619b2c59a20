-- The text of a slot is that of the table that its bytes are read as; slots have the same text exactly if they have the same shape and table.
use Rattle.std.proofs.Common.{◌≡◌, ℕ, ◌+◌, Bool, true, eqb, List, get_or, sym, refl, ap, ◌∙◌, subst, ap₂}
use Rattle.trees.specs.declared.shape.Shape.{Shape}
use Rattle.slots.specs.declared.layout.Layout.{Layout}
use Rattle.automata.specs.Numbering.{Question, at_leaf, at_inner, answer, Over, own_table}
use Rattle.automata.proofs.Guards.{guard_leaf, guard_inner, guard_final}
use Rattle.tables.specs.Tables.{SameTable}
use Rattle.tables.specs.Images.{fits, states_of, leaf_address, inner_address}
use Rattle.tables.specs.Slots.{answering, slot_table}
use Rattle.tables.specs.Texts.{table_text}
use Rattle.tables.specs.Canonical.{slot_text}
use Rattle.tables.proofs.Texts.{text_same, text_iff}
use Rattle.tables.proofs.Slots.{slot_small}
use Rattle.listing.specs.Rows.{cell, read_table}
use Rattle.listing.specs.Listings.{Tells}

module _ (l : Layout) (bs : List ℕ) where
  -- where the slot answers at all
  answered : SameTable l.shape (own_table (answering true l.shape l.most bs)) (read_table l (states_of l.most bs) bs)
  answered = record { states = refl; final = λ s h. guard_final (states_of l.most bs) s (eqb (get_or bs (1 + s) 0) 1) h; cells = same }
    where
      same : (q : Question) → Over l.shape (states_of l.most bs) q
          → answer (own_table (answering true l.shape l.most bs)) q ≡ answer (read_table l (states_of l.most bs) bs) q
      same (at_leaf a m) o = guard_leaf l.shape a m (cell (states_of l.most bs) bs (leaf_address l.shape l.most a m)) o.0 o.1
      same (at_inner a m x y) o =
          guard_inner l.shape (states_of l.most bs) a m x y (cell (states_of l.most bs) bs (inner_address l.shape l.most a m x y))
          o.0 o.1 o.2 o.3

  slot_reads : (k : ℕ) → fits l.shape l.most ≡ true → k ≡ states_of l.most bs
      → table_text l.shape (read_table l k bs) ≡ slot_text l.shape l.most bs
  slot_reads k e is =
      ap (λ (n : ℕ). table_text l.shape (read_table l n bs)) is
      ∙ sym (text_same l.shape (slot_table l.shape l.most bs) (read_table l (states_of l.most bs) bs)
      (subst (λ (ok : Bool). SameTable l.shape (own_table (answering ok l.shape l.most bs)) (read_table l (states_of l.most bs) bs)) (sym e) answered))

  pub text_is : (sh : Shape) (N k : ℕ) → fits sh N ≡ true → l.shape ≡ sh → l.most ≡ N → k ≡ states_of N bs
      → table_text l.shape (read_table l k bs) ≡ slot_text sh N bs
  text_is sh N k e s m is =
      slot_reads k (ap₂ (λ (x : Shape) (y : ℕ). fits x y) s m ∙ e) (is ∙ ap (λ (y : ℕ). states_of y bs) (sym m))
      ∙ ap₂ (λ (x : Shape) (y : ℕ). slot_text x y bs) s m

pub slot_tells : (sh : Shape) (N : ℕ) (bs : List ℕ) → Tells sh N bs
slot_tells sh N bs sh' N' cs ok ok' =
    text_iff sh sh' (slot_table sh N bs) (slot_table sh' N' cs) ok ok' (slot_small sh N bs) (slot_small sh' N' cs)
