-- The members of a group, word by word.
use Rattle.std.proofs.Common.{◌≡◌, ℕ, ◌+◌, ◌<◌, List, [], ◌∷◌, ◌++◌, length, Option, Some, None, Result, Ok, Err, Bool, true, false, cond}
use Rattle.std.proofs.Common.{◌&&◌, not, refl, sym, ap, ◌∙◌, arith, append_assoc}
use Rattle.std.specs.Prelude.{option_map, option_and_then, nat_lt, nat_le, if◌then◌else◌}
use Rattle.std.specs.List.{list_all}
use Rattle.std.proofs.lemmas.List.{append-nil}
use Rattle.std.proofs.lemmas.Bool.Decides.{nat_tests}
use Rattle.coll_text.specs.Text.{number_of}
use Rattle.coll_lang.specs.Language.{all_numbers, are_members, is_rising, or_refuse}
use Rattle.coll_lang.specs.Made.{members_said, rank_read}
use Rattle.coll_lang.specs.Answers.{Fails}
use Rattle.coll_lang.specs.declared.fault.LineFault.{LineFault}
use Rattle.coll_lang.specs.declared.fault.LineFault.TheVariants as faults
use Rattle.coll_lang.specs.declared.fault.Refusal.{Refusal}
use Rattle.coll_lang.specs.declared.fault.Refusal.TheVariants.{BadNumber}

-- rising ranks, the first of them at least so much
abbrev rise_from : ℕ → ℕ → List ℕ → Bool
rise_from ranks least [] = true
rise_from ranks least (m ∷ ms) = (nat_le least m && nat_lt m ranks) && rise_from ranks (m + 1) ms

-- the list, where it is one of members
abbrev kept : Bool → List ℕ → Option (List ℕ)
kept fits list = if fits && nat_lt 0 (length list) then Some list else None

-- what is said in the end, where a member was none or not, these were, and the next is at least so much
unfoldable pub left_over : ℕ → Bool → List ℕ → ℕ → List (List ℕ) → Result (Option (List ℕ)) Refusal
left_over ranks broken done least ws =
    or_refuse BadNumber (option_map (λ ms. kept (not broken && rise_from ranks least ms) (done ++ ms)) (all_numbers ws))

below_rise : (ranks m : ℕ) (ms : List ℕ) → (list_all (λ m. nat_lt m ranks) ms && is_rising (m ∷ ms)) ≡ rise_from ranks (m + 1) ms
below_rise ranks m [] = refl
below_rise ranks m (n ∷ ns) =
    both (nat_lt n ranks) (list_all (λ m. nat_lt m ranks) ns) (nat_lt m n) (is_rising (n ∷ ns)) (nat_le (m + 1) n)
    (rise_from ranks (n + 1) ns) (next m n) (below_rise ranks n ns)
  where
    next : (m n : ℕ) → nat_lt m n ≡ nat_le (m + 1) n
    next m n = grind (arith, nat_tests)

    both : (a b c d e f : Bool) → c ≡ e → (b && d) ≡ f → ((a && b) && (c && d)) ≡ ((e && a) && f)
    both true b c d true f p q = rw p q
    both true b c d false f p q = rw p (none b)
      where
        none : (b : Bool) → (b && false) ≡ false
        none true = refl
        none false = refl
    both false b c d true f p q = refl
    both false b c d false f p q = refl

are_rising : (ranks : ℕ) (ms : List ℕ) → (list_all (λ m. nat_lt m ranks) ms && is_rising ms) ≡ rise_from ranks 0 ms
are_rising ranks [] = refl
are_rising ranks (m ∷ ms) =
    at (nat_lt m ranks) (list_all (λ m. nat_lt m ranks) ms) (is_rising (m ∷ ms)) (nat_le 0 m) (rise_from ranks (m + 1) ms) (least m)
    (below_rise ranks m ms)
  where
    least : (m : ℕ) → nat_le 0 m ≡ true
    least m = grind (arith, nat_tests)

    at : (a b c d e : Bool) → d ≡ true → (b && c) ≡ e → ((a && b) && c) ≡ ((d && a) && e)
    at true b c d e p q = rw p q
    at false b c d e p q = rw p refl

pub begins : (ranks : ℕ) (ws : List (List ℕ)) → members_said ranks ws ≡ left_over ranks false [] 0 ws
unfolding members_said left_over
begins ranks ws = at (all_numbers ws)
  where
    at : (o : Option (List ℕ))
        → or_refuse BadNumber (option_map (λ ms. if are_members ranks ms then Some ms else None) o)
        ≡ or_refuse BadNumber (option_map (λ ms. kept (rise_from ranks 0 ms) ([] ++ ms)) o)
    at None = refl
    at (Some ms) = ap (λ b. or_refuse BadNumber (Some (kept b ms))) (are_rising ranks ms)

-- a word more
read_as : (ranks least : ℕ) (o : Option ℕ) (r : Option ℕ)
    → or_refuse BadNumber (option_map (λ n. if nat_le least n && nat_lt n ranks then Some n else None) o) ≡ Ok r
    → (n : ℕ) × (o ≡ Some n) × ((if nat_le least n && nat_lt n ranks then Some n else None) ≡ r)
read_as ranks least None r h = cc
read_as ranks least (Some n) r h = (n, refl, is (if nat_le least n && nat_lt n ranks then Some n else None) h)
  where
    is : (x : Option ℕ) → or_refuse BadNumber (Some x) ≡ Ok r → x ≡ r
    is x h = cc

there : (b : Bool) (n m : ℕ) → cond b (Some n) None ≡ Some m → (b ≡ true) × (n ≡ m)
there true n m h = let e : n ≡ m = cc in (refl, e)
there false n m h = cc

missing : (b : Bool) (n : ℕ) → (let o : Option ℕ = cond b (Some n) None in o ≡ None) → b ≡ false
missing true n h = cc
missing false n h = refl

pub takes : (ranks least : ℕ) (broken : Bool) (done w : List ℕ) (ws : List (List ℕ)) (m : ℕ) → rank_read ranks least w ≡ Ok (Some m)
    → left_over ranks broken done least (w ∷ ws) ≡ left_over ranks broken (done ++ m ∷ []) (m + 1) ws
unfolding left_over rank_read
takes ranks least broken done w ws m h =
    let r = read_as ranks least (number_of w) (Some m) h in
    let t = there (nat_le least r.0 && nat_lt r.0 ranks) r.0 m r.2 in
    rw (r.1) (at r.0 (all_numbers ws) t.0 ∙ ap (λ n. left ranks broken done n (all_numbers ws)) t.1)
  where
    left : ℕ → Bool → List ℕ → ℕ → Option (List ℕ) → Result (Option (List ℕ)) Refusal
    left ranks broken done n o =
        or_refuse BadNumber (option_map (λ ms. kept (not broken && rise_from ranks (n + 1) ms) ((done ++ n ∷ []) ++ ms)) o)

    at : (n : ℕ) (o : Option (List ℕ)) → (nat_le least n && nat_lt n ranks) ≡ true
        → or_refuse BadNumber (option_map (λ ms. kept (not broken && rise_from ranks least ms) (done ++ ms)) (option_map (λ ns. n ∷ ns) o))
        ≡ or_refuse BadNumber (option_map (λ ms. kept (not broken && rise_from ranks (n + 1) ms) ((done ++ n ∷ []) ++ ms)) o)
    at n None e = refl
    at n (Some ms) e = rw e
        (ap (λ (l : List ℕ). or_refuse BadNumber (Some (kept (not broken && rise_from ranks (n + 1) ms) l)))
        (sym (append_assoc done (n ∷ []) ms)))

pub breaks : (ranks least : ℕ) (broken : Bool) (done w : List ℕ) (ws : List (List ℕ)) → rank_read ranks least w ≡ Ok None
    → left_over ranks broken done least (w ∷ ws) ≡ left_over ranks true done least ws
unfolding left_over rank_read
breaks ranks least broken done w ws h =
    let r = read_as ranks least (number_of w) None h in
    let t = missing (nat_le least r.0 && nat_lt r.0 ranks) r.0 r.2 in
    rw (r.1) (at broken r.0 (all_numbers ws) t)
  where
    at : (broken : Bool) (n : ℕ) (o : Option (List ℕ)) → (nat_le least n && nat_lt n ranks) ≡ false
        → or_refuse BadNumber (option_map (λ ms. kept (not broken && rise_from ranks least ms) (done ++ ms)) (option_map (λ ns. n ∷ ns) o))
        ≡ or_refuse BadNumber (option_map (λ ms. kept (not true && rise_from ranks least ms) (done ++ ms)) o)
    at broken n None e = refl
    at true n (Some ms) e = refl
    at false n (Some ms) e = rw e refl

pub stops : (ranks least : ℕ) (broken : Bool) (done w : List ℕ) (ws : List (List ℕ)) (name : Refusal) → rank_read ranks least w ≡ Err name
    → left_over ranks broken done least (w ∷ ws) ≡ Err name
unfolding left_over rank_read
stops ranks least broken done w ws name h = at (number_of w) h
  where
    at : (o : Option ℕ) → or_refuse BadNumber (option_map (λ n. if nat_le least n && nat_lt n ranks then Some n else None) o) ≡ Err name
        → or_refuse BadNumber (option_map (λ ms. kept (not broken && rise_from ranks least ms) (done ++ ms))
        (option_and_then (λ n. option_map (λ ns. n ∷ ns) (all_numbers ws)) o)) ≡ Err name
    at None h = let e : BadNumber ≡ name = cc in cc
    at (Some n) h = cc

pub fails : (ranks least : ℕ) (broken : Bool) (done w : List ℕ) (ws : List (List ℕ)) (fault : LineFault)
    → Fails fault (rank_read ranks least w) → Fails fault (left_over ranks broken done least (w ∷ ws))
fails ranks least broken done w ws (faults.Refused name) h = stops ranks least broken done w ws name h
fails ranks least broken done w ws faults.NoMemory h = tt

pub ends : (ranks least : ℕ) (done : List ℕ) → 0 < length done → left_over ranks false done least [] ≡ Ok (Some done)
unfolding left_over
ends ranks least done some =
    ap (λ (l : List ℕ). Ok (kept true l)) (append-nil done)
    ∙ (let t : nat_lt 0 (length done) ≡ true = there_is (length done) some in rw t refl)
  where
    there_is : (n : ℕ) → 0 < n → nat_lt 0 n ≡ true
    there_is n lt = grind (arith, nat_tests)

pub ends_none : (ranks least : ℕ) (broken : Bool) (done : List ℕ) → length done ≡ 0 → left_over ranks broken done least [] ≡ Ok None
unfolding left_over
ends_none ranks least broken [] none = at (not broken && true)
  where
    at : (b : Bool) → (let r : Result (Option (List ℕ)) Refusal = Ok (kept b []) in r ≡ Ok None)
    at true = refl
    at false = refl
ends_none ranks least broken (x ∷ xs) none = absurd (omega (arith, none))

pub ends_broken : (ranks least : ℕ) (done : List ℕ) → left_over ranks true done least [] ≡ Ok None
unfolding left_over
ends_broken ranks least done = refl

-- a group's members from the first word to the last
pub ruleset word_by_word = (begins, takes, breaks, fails, ends, ends_none, ends_broken)
