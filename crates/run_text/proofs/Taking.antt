-- Texts that go to a sink one after the other.
use Rattle.std.proofs.Common.{ℕ, ◌≡◌, ◌≤◌, ◌<◌, List, [], ◌++◌, Option, Some, None, Result, Ok, Err, refl, sym, ◌∙◌, ap, subst}
use Rattle.std.proofs.Common.{append_assoc, take, drop, arith, inl, inr}
use Rattle.std.proofs.lemmas.List.{append-nil, take-append-drop}
use Rattle.port_io.specs.declared.ends.Failed.{Failed}
use Rattle.ptl_types.specs.Handles.{one_more}
use Rattle.port_io.specs.Counts.{Rose}
use Rattle.port_io.specs.Ends.{Outflow, Appends}
use Rattle.std.specs.Result.{IsErr}
use Rattle.std.specs.List.{flat_map}
use Rattle.std.proofs.Common.{length, get_or, ◌+◌, ◌%◌, add-one, drop-cons}
use Rattle.run_text.specs.Putting.{Takes, FailsWithin, Puts, EndsWith}
use Rattle.run_text.specs.declared.pieces.TheConstants.{PIECE}

pub Appends-nothing : (told : Option (List ℕ)) → Appends told told []
Appends-nothing None = refl
Appends-nothing (Some taken) = sym (append-nil taken)

Appends-none : (b c : Option (List ℕ)) (ys : List ℕ) → b ≡ None → Appends b c ys → c ≡ None
Appends-none None c ys e then = then
Appends-none (Some x) c ys e then = absurd (cc)

pub Appends-then : (a b c : Option (List ℕ)) (xs ys : List ℕ) → Appends a b xs → Appends b c ys → Appends a c (xs ++ ys)
Appends-then None b c xs ys first then = Appends-none b c ys first then
Appends-then (Some old) b None xs ys first then = tt
Appends-then (Some old) None (Some new) xs ys first then = absurd (cc)
Appends-then (Some old) (Some middle) (Some new) xs ys first then = then ∙ (ap (λ zs. zs ++ ys) first ∙ append_assoc old xs ys)

pub Rose-later : (a b c : ℕ) → a ≤ b → Rose b c → Rose a c
Rose-later a b c before (inl more) = inl (omega arith)
Rose-later a b c before (inr end) = inr end

pub Takes-none : (a : Outflow) (text : List ℕ) → Takes a a text text
Takes-none a text = record { out = []; whole = refl; appended = Appends-nothing a.taken; faults = omega arith; finishes = refl }

-- one write takes a beginning of the piece
pub Takes-one : (a b : Outflow) (piece : List ℕ) (n : ℕ) → Appends a.taken b.taken (take n piece) → a.faults ≤ b.faults →
    b.finishes ≡ a.finishes → Takes a b piece (drop n piece)
Takes-one a b piece n appended faults finishes = record {
  out = take n piece;
  whole = sym (take-append-drop n piece);
  appended = appended;
  faults = faults;
  finishes = finishes;
}

pub Fails-one : (a b : Outflow) (piece : List ℕ) → Appends a.taken b.taken [] → a.faults ≤ b.faults → b.finishes ≡ a.finishes →
    Rose a.faults b.faults → FailsWithin a b piece
Fails-one a b piece appended faults finishes rose = record {
  rest = piece;
  begun = record { out = []; whole = refl; appended = appended; faults = faults; finishes = finishes };
  rose = rose;
}

pub Takes-then : (a b c : Outflow) (text rest more : List ℕ) → Takes a b text rest → Takes b c rest more → Takes a c text more
Takes-then a b c text rest more first then = record {
  out = first.out ++ then.out;
  whole = first.whole ∙ (ap (λ xs. first.out ++ xs) then.whole ∙ sym (append_assoc first.out then.out more));
  appended = Appends-then a.taken b.taken c.taken first.out then.out first.appended then.appended;
  faults = omega arith;
  finishes = then.finishes ∙ first.finishes;
}

pub Takes-more : (a b : Outflow) (text rest more : List ℕ) → Takes a b text rest → Takes a b (text ++ more) (rest ++ more)
Takes-more a b text rest more takes = record {
  out = takes.out;
  whole = ap (λ xs. xs ++ more) takes.whole ∙ append_assoc takes.out rest more;
  appended = takes.appended;
  faults = takes.faults;
  finishes = takes.finishes;
}

pub Fails-then : (a b c : Outflow) (text rest : List ℕ) → Takes a b text rest → FailsWithin b c rest → FailsWithin a c text
Fails-then a b c text rest first then = record {
  rest = then.rest;
  begun = Takes-then a b c text rest then.rest first then.begun;
  rose = Rose-later a.faults b.faults c.faults first.faults then.rose;
}

pub Fails-more : (a b : Outflow) (text more : List ℕ) → FailsWithin a b text → FailsWithin a b (text ++ more)
Fails-more a b text more fails = record {
  rest = fails.rest ++ more;
  begun = Takes-more a b text fails.rest more fails.begun;
  rose = fails.rose;
}

-- a list, and then another
pub Puts-then : (a b c : Outflow) (h i j xs ys : List ℕ) (r : Result (Unit {0}) Failed) → Takes a b (h ++ xs) i → Puts b c i j ys r →
    Puts a c h j (xs ++ ys) r
Puts-then a b c h i j xs ys (Ok done) first then =
    let both : Takes a c ((h ++ xs) ++ ys) j = Takes-then a b c ((h ++ xs) ++ ys) (i ++ ys) j (Takes-more a b (h ++ xs) i ys first) then in
    subst (λ text. Takes a c text j) (append_assoc h xs ys) both
Puts-then a b c h i j xs ys (Err failed) first then =
    let both : FailsWithin a c ((h ++ xs) ++ ys) = Fails-then a b c ((h ++ xs) ++ ys) (i ++ ys) (Takes-more a b (h ++ xs) i ys first) then
    in
    subst (λ text. FailsWithin a c text) (append_assoc h xs ys) both

-- the sink fails before the other list
pub Fails-early : (a b : Outflow) (h xs ys : List ℕ) → FailsWithin a b (h ++ xs) → FailsWithin a b (h ++ (xs ++ ys))
Fails-early a b h xs ys fails = subst (λ text. FailsWithin a b text) (append_assoc h xs ys) (Fails-more a b (h ++ xs) ys fails)

-- a whole piece: what was held back and the front of what is to come
pub Takes-piece : (a b c : Outflow) (text held rest now later piece : List ℕ) → Takes a b text (held ++ rest) → piece ≡ held ++ now →
    rest ≡ now ++ later → Takes b c piece [] → Takes a c text later
Takes-piece a b c text held rest now later piece before cut split wrote =
    let whole : held ++ rest ≡ piece ++ later = ap (λ xs. held ++ xs) split
    ∙ (sym (append_assoc held now later) ∙ ap (λ xs. xs ++ later) (sym cut)) in
    Takes-then a b c text (piece ++ later) later (subst (λ xs. Takes a b text xs) whole before) (Takes-more b c piece [] later wrote)

pub Fails-piece : (a b c : Outflow) (text held rest now later piece : List ℕ) → Takes a b text (held ++ rest) → piece ≡ held ++ now →
    rest ≡ now ++ later → FailsWithin b c piece → FailsWithin a c text
Fails-piece a b c text held rest now later piece before cut split failed =
    let whole : held ++ rest ≡ piece ++ later = ap (λ xs. held ++ xs) split
    ∙ (sym (append_assoc held now later) ∙ ap (λ xs. xs ++ later) (sym cut)) in
    Fails-then a b c text (piece ++ later) (subst (λ xs. Takes a b text xs) whole before) (Fails-more b c piece later failed)

-- the exit where the sink failed before the other list
pub Puts-exit : (a b : Outflow) (h i xs ys : List ℕ) (r : Result (Unit {0}) Failed) → IsErr r → FailsWithin a b (h ++ xs) →
    Puts a b h i (xs ++ ys) r
Puts-exit a b h i xs ys (Ok done) exit fails = absurd (cc)
Puts-exit a b h i xs ys (Err failed) exit fails = Fails-early a b h xs ys fails

-- the same after a list that went well
pub Puts-exit-then : (a b c : Outflow) (h i j xs ys zs : List ℕ) (r : Result (Unit {0}) Failed) → IsErr r → Takes a b (h ++ xs) i →
    FailsWithin b c (i ++ ys) → Puts a c h j (xs ++ (ys ++ zs)) r
Puts-exit-then a b c h i j xs ys zs r exit first fails = Puts-then a b c h i j xs (ys ++ zs) r first (Puts-exit b c i j ys zs r exit fails)

-- the next list of several
pub Takes-next : (a b c : Outflow) (text h i xs todo : List ℕ) → Takes a b text (h ++ (xs ++ todo)) → Takes b c (h ++ xs) i →
    Takes a c text (i ++ todo)
Takes-next a b c text h i xs todo before then =
    Takes-then a b c text ((h ++ xs) ++ todo) (i ++ todo) (subst (λ rest. Takes a b text rest) (sym (append_assoc h xs todo)) before)
    (Takes-more b c (h ++ xs) i todo then)

pub Fails-next : (a b c : Outflow) (text h xs todo : List ℕ) → Takes a b text (h ++ (xs ++ todo)) → FailsWithin b c (h ++ xs) →
    FailsWithin a c text
Fails-next a b c text h xs todo before fails =
    Fails-then a b c text ((h ++ xs) ++ todo) (subst (λ rest. Takes a b text rest) (sym (append_assoc h xs todo)) before)
    (Fails-more b c (h ++ xs) todo fails)

pub Puts-stops : (a b : Outflow) (h i list : List ℕ) (r : Result (Unit {0}) Failed) → IsErr r → FailsWithin a b (h ++ list) →
    Puts a b h i list r
Puts-stops a b h i list (Ok done) exit fails = absurd (cc)
Puts-stops a b h i list (Err failed) exit fails = fails

-- the same for a list made of parts, from part n on
pub flat_map-drop : {X : Type 0} (f : X → List ℕ) (xs : List X) (n : ℕ) (d : X) → n < length xs →
    flat_map f (drop n xs) ≡ f (get_or xs n d) ++ flat_map f (drop (n + 1) xs)
flat_map-drop f xs n d in_range = rw (add-one, drop-cons xs n d) refl

-- the end of a text whose beginning was taken
pub EndsWith-then : (a b c : Outflow) (text rest : List ℕ) (r : Result (Unit {0}) Failed) → Takes a b text rest → EndsWith b c rest r →
    EndsWith a c text r
EndsWith-then a b c text rest (Ok done) first ends = record {
  appended = subst (λ xs. Appends a.taken c.taken xs) (sym first.whole)
      (Appends-then a.taken b.taken c.taken first.out rest first.appended ends.appended);
  faults = let before = first.faults in let after = ends.faults in omega arith;
  finishes = ends.finishes ∙ ap (λ n. one_more n) first.finishes;
}
EndsWith-then a b c text rest (Err failed) first fails = Fails-then a b c text rest first fails

pub EndsWith-stops : (a b : Outflow) (text : List ℕ) (r : Result (Unit {0}) Failed) → IsErr r → FailsWithin a b text → EndsWith a b text r
EndsWith-stops a b text (Ok done) exit fails = absurd (cc)
EndsWith-stops a b text (Err failed) exit fails = fails

-- a whole piece more leaves as much over
pub left_over : (less more : ℕ) → more ≡ PIECE + less → less % PIECE ≡ more % PIECE
left_over less more whole = omega arith
