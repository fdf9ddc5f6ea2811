-- A map whose keys are vectors, seen as the list of its entries by the vectors' bytes.
use Rattle.std.proofs.Common.{◌≡◌, ℕ, List, [], ◌∷◌, map, Option, Some, None, Bool, true, false, cond, refl, ap, ◌∙◌}
use Rattle.std.specs.declared.cmp.Ordering.{Ordering}
use Rattle.std.specs.declared.cmp.Ordering.TheVariants.{Less, Equal, Greater}
use Rattle.std.specs.Ordering.{match_ordering, nat_cmp}
use Rattle.std.specs.Cmp.Lexicographic.{slice_cmp}
use Rattle.std.specs.BTreeMap.{BTreeMap, get_by, insert_entry, is_at}
use Rattle.std.specs.Map.{lookup, remove_entry}
use Rattle.std.specs.Global.{Vec}
use Rattle.log_answers.specs.names.Keys.{at_word, by_bytes, words_of, with_word, without_word, word_lookup}

module _ {X : Type 0} where
  found : (w : List ℕ) (es : List (Vec ℕ × X)) → lookup (λ k. at_word w k.items) es ≡ lookup (at_word w) (map by_bytes es)
  found w [] = refl
  found w (e ∷ es) = ap (cond (at_word w e.0.items) (Some e.1)) (found w es)

  gone : (w : List ℕ) (es : List (Vec ℕ × X))
      → map by_bytes (remove_entry (λ k. at_word w k.items) es) ≡ remove_entry (at_word w) (map by_bytes es)
  gone w [] = refl
  gone w (e ∷ es) = by_test (at_word w e.0.items) (gone w es)
    where
      by_test : (b : Bool) → map by_bytes (remove_entry (λ k. at_word w k.items) es) ≡ remove_entry (at_word w) (map by_bytes es)
          → map by_bytes (cond b es (e ∷ remove_entry (λ k. at_word w k.items) es))
          ≡ cond b (map by_bytes es) (by_bytes e ∷ remove_entry (at_word w) (map by_bytes es))
      by_test true more = refl
      by_test false more = ap (λ l. by_bytes e ∷ l) more

  put : (es : List (Vec ℕ × X)) (k : Vec ℕ) (x : X)
      → map by_bytes (insert_entry (λ a b. slice_cmp nat_cmp a.items b.items) es k x)
      ≡ insert_entry (slice_cmp nat_cmp) (map by_bytes es) k.items x
  put [] k x = refl
  put (e ∷ es) k x = by_order (slice_cmp nat_cmp k.items e.0.items) (put es k x)
    where
      by_order : (o : Ordering)
          → map by_bytes (insert_entry (λ a b. slice_cmp nat_cmp a.items b.items) es k x)
          ≡ insert_entry (slice_cmp nat_cmp) (map by_bytes es) k.items x
          → map by_bytes
          (match_ordering o ((k, x) ∷ e ∷ es) ((e.0, x) ∷ es) (e ∷ insert_entry (λ a b. slice_cmp nat_cmp a.items b.items) es k x))
          ≡ match_ordering o ((k.items, x) ∷ by_bytes e ∷ map by_bytes es) ((e.0.items, x) ∷ map by_bytes es)
          (by_bytes e ∷ insert_entry (slice_cmp nat_cmp) (map by_bytes es) k.items x)
      by_order Less more = refl
      by_order Equal more = refl
      by_order Greater more = ap (λ l. by_bytes e ∷ l) more

  -- a look-up, one word more and one less, as the list has them; `es` is the list before
  pub word_found : (w : List ℕ) (m : BTreeMap (Vec ℕ) X) (es : List (List ℕ × X)) → words_of m ≡ es
      → get_by (λ k. slice_cmp nat_cmp w k.items) m ≡ word_lookup w es
  word_found w m es is = found w m.entries ∙ ap (word_lookup w) is

  pub word_put : (w : List ℕ) (m n : BTreeMap (Vec ℕ) X) (k : Vec ℕ) (x : X) (es : List (List ℕ × X)) → words_of m ≡ es → k.items ≡ w
      → n.entries ≡ insert_entry (λ a b. slice_cmp nat_cmp a.items b.items) m.entries k x → words_of n ≡ with_word w x es
  word_put w m n k x es is named e =
      ap (map by_bytes) e ∙ put m.entries k x ∙ ap (λ v. with_word v x (words_of m)) named ∙ ap (with_word w x) is

  pub word_gone : (w : List ℕ) (m n : BTreeMap (Vec ℕ) X) (es : List (List ℕ × X)) → words_of m ≡ es
      → n.entries ≡ remove_entry (is_at (λ k. slice_cmp nat_cmp w k.items)) m.entries → words_of n ≡ without_word w es
  word_gone w m n es is e = ap (map by_bytes) e ∙ gone w m.entries ∙ ap (without_word w) is
