-- What is left where a header is taken out of the middle.
use Rattle.std.proofs.Common.{◌≡◌, ℕ, suc, ◌+◌, ◌-◌, ◌<◌, List, [], ◌∷◌, ◌++◌, length, take, drop, refl, ap, sym, arith, ◌∙◌, add-one}
use Rattle.std.specs.Prelude.{remove}
use Rattle.std.proofs.lemmas.List.{length-take-le, take-take, drop-take, length-drop, drop-drop, drop_at}

module _ {A : Type 0} where
  one : (ys zs ws : List A) → 0 < length ys → drop 1 ((take 1 ys ++ zs) ++ ws) ≡ zs ++ ws
  one [] zs ws some = absurd (omega (arith, some))
  one (y ∷ ys) zs ws some = refl

  pub rotated : (xs s : List A) (at : ℕ) → at < length xs → s ≡ drop (length (take (at + 1) xs) - 1) (take (at + 1) xs) ++ take
      (length (take (at + 1) xs) - 1) (take (at + 1) xs) → drop 1 (s ++ drop (at + 1) xs) ≡ remove xs at
  rotated xs s at within is =
      let n : length (take (at + 1) xs) ≡ at + 1 = length-take-le (at + 1) xs (omega (arith, within)) in
      let m : length (take (at + 1) xs) - 1 ≡ at = omega (arith, n) in
      let first : drop at (take (at + 1) xs) ≡ take 1 (drop at xs) = drop-take at 1 xs in
      let before : take at (take (at + 1) xs) ≡ take at xs = take-take at (at + 1) xs (omega arith) in
      let s-is : s ≡ take 1 (drop at xs) ++ take at xs = is ∙ rw (m, first, before) refl in
      let next : at + 1 ≡ suc at = add-one at in
      rw (s-is, next) (one (drop at xs) (take at xs) (drop (suc at) xs) (omega (arith, within, length-drop at xs)))

  -- after the first `gone`
  pub mid : (xs s : List A) (gone at n : ℕ) → gone + at < length xs → n ≡ at + 1 →
      s ≡ drop (length (take n (drop gone xs)) - 1) (take n (drop gone xs)) ++ take (length (take n (drop gone xs)) - 1)
      (take n (drop gone xs)) → drop (gone + 1) (take gone xs ++ (s ++ drop n (drop gone xs))) ≡ remove (drop gone xs) at
  mid xs s gone at n within next is =
      let whole : List A = take gone xs ++ (s ++ drop n (drop gone xs)) in
      let front : length (take gone xs) ≡ gone = length-take-le gone xs (omega (arith, within)) in
      sym (drop-drop 1 gone whole) ∙ ap (drop 1) (drop_at (take gone xs) (s ++ drop n (drop gone xs)) gone front)
      ∙ rw next (rotated (drop gone xs) s at (omega (arith, within, length-drop gone xs)) (rw next at is))
