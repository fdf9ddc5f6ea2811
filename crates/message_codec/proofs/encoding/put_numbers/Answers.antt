-- The numbers one after the other, and that each of them fits.
use Rattle.std.proofs.Common.{ℕ, ◌<◌, ◌^◌, List, [], ◌∷◌, ◌++◌, Ok, Err, OnOk, ap, ap₂, subst, ◌∙◌, append_assoc}
use Rattle.std.proofs.lemmas.Result.{IfOk-equal}
use Rattle.std.specs.List.{flat_map}
use Rattle.std.specs.Int.{w32, w64, to_le_bytes}
use Rattle.message_codec.specs.Encoding.{NumbersFit}
use Rattle.message_codec.proofs.encoding.put_numbers.Goals as goal

pub returns-clause-ok : goal.returns-clause-ok
returns-clause-ok c =
    let h = c.args.h.now in
    let out = c.args.out.now.items in
    let home = c.home_of-home in
    let words : ℕ → List ℕ = λ slot. flat_map (to_le_bytes w32) (h.source ∷ h.target ∷ h.pt ∷ slot ∷ []) in
    let doubles : ℕ → List ℕ = λ stamp. flat_map (to_le_bytes w64)
    (h.match_bits ∷ h.offset ∷ h.length ∷ h.hdr_data ∷ h.operand ∷ stamp ∷ h.home_offset ∷ []) in
    IfOk-equal c.put_double_words.result _ _ _ c.put_double_words.ensures.ok
    (ap (λ (l : List ℕ). l ++ doubles home.result.stamp) c.in_ok-put_words.ensures.ok
    ∙ append_assoc out (words home.result.slot) (doubles home.result.stamp)
    ∙ ap₂ (λ s t. out ++ (words s ++ doubles t)) home.ensures.slot home.ensures.stamp)

pub returns-clause-fit : goal.returns-clause-fit
returns-clause-fit c =
    let h = c.args.h.now in
    let home = c.home_of-home in
    let fits : NumbersFit h = record {
      source = c.put_words.ensures.fit 0;
      target = c.put_words.ensures.fit 1;
      pt = c.put_words.ensures.fit 2;
      slot = subst (λ n. n < 2 ^ 32) home.ensures.slot (c.put_words.ensures.fit 3);
      match_bits = c.put_double_words.ensures.fit 0;
      offset = c.put_double_words.ensures.fit 1;
      length = c.put_double_words.ensures.fit 2;
      hdr_data = c.put_double_words.ensures.fit 3;
      operand = c.put_double_words.ensures.fit 4;
      stamp = subst (λ n. n < 2 ^ 64) home.ensures.stamp (c.put_double_words.ensures.fit 5);
      home_offset = c.put_double_words.ensures.fit 6;
    } in
    elim c.put_double_words.result as (λ r. OnOk r (NumbersFit h)) [ Ok done ↦ fits | Err e ↦ tt ]
