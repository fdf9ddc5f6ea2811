-- Operations that wait and messages under way, by number, with each handle renamed.
use Rattle.std.proofs.Common.{◌≡◌, ℕ, List, [], ◌∷◌, Option, Some, None, option_map, cond, refl, ap, ap₂, ◌∙◌}
use Rattle.std.specs.Ordering.{nat_cmp}
use Rattle.ptl_types.specs.declared.handles.Handle.{Handle}
use Rattle.ptl_types.specs.declared.headers.Header.{Header}
use Rattle.ptl_types.specs.Handles.{one_more}
use Rattle.ptl_types.specs.Messages.{Sent}
use Rattle.log_answers.specs.declared.names.flights.Flight.{Flight}
use Rattle.log_answers.specs.declared.names.flights.Flights.{Flights}
use Rattle.log_answers.specs.declared.names.postings.Postings.{Postings}
use Rattle.log_answers.specs.declared.names.postings.Waiting.{Waiting}
use Rattle.log_answers.specs.names.Flights.{age_of, first_of_lane, flight_at, oldest, same_lane, taken}
use Rattle.log_answers.specs.names.Flights.{with_sent, word_in, words_with, words_without}
use Rattle.log_answers.specs.names.Keys.{Numbers, Words, at_number, number_lookup}
use Rattle.log_answers.specs.names.Postings.{cancelled, each_removed, number_of, numbers_without}
use Rattle.log_answers.specs.names.Postings.{posted, removed, waiting_on, word_of_number}
use Rattle.slot_laws.specs.Renaming.{KeepsApart, Renaming}
use Rattle.slot_laws.specs.Renamed.{renamed_header, renamed_message}
use Rattle.slot_laws.specs.Naming.{renamed_flight, renamed_flights, renamed_postings, renamed_waiting}
use Rattle.slot_laws.proofs.Maps.{insert_entry-mapped, lookup-mapped, mapped, remove_entry-mapped}

-- ---- operations that wait

pub number_of_renamed : (f : Handle → Handle) (word : List ℕ) (p : Postings) → number_of word (renamed_postings f p) ≡ number_of word p
number_of_renamed f word p = refl

word_renamed : (f : Handle → Handle) (o : Option Waiting) →
    option_map (λ (x : Waiting). x.word) (option_map (renamed_waiting f) o) ≡ option_map (λ (x : Waiting). x.word) o
word_renamed f None = refl
word_renamed f (Some x) = refl

pub word_of_number_renamed : (f : Handle → Handle) (t : ℕ) (p : Postings) → word_of_number t (renamed_postings f p) ≡ word_of_number t p
word_of_number_renamed f t p =
    ap (option_map (λ (x : Waiting). x.word)) (lookup-mapped (renamed_waiting f) (at_number t) p.waiting)
    ∙ word_renamed f (number_lookup t p.waiting)

pub posted_renamed : (f : Handle → Handle) (t : ℕ) (ct : Handle) (word : List ℕ) (p : Postings) →
    posted t (f ct) word (renamed_postings f p) ≡ renamed_postings f (posted t ct word p)
unfolding posted
posted_renamed f t ct word p =
    ap (λ (xs : Numbers Waiting). record { numbers = (posted t ct word p).numbers; waiting = xs })
    (insert_entry-mapped (renamed_waiting f) nat_cmp t (record { ct = ct; word = word }) p.waiting)

numbers_without_renamed : (f : Handle → Handle) (o : Option Waiting) (numbers : Words ℕ) →
    numbers_without (option_map (renamed_waiting f) o) numbers ≡ numbers_without o numbers
numbers_without_renamed f None numbers = refl
numbers_without_renamed f (Some x) numbers = refl

pub removed_renamed : (f : Handle → Handle) (t : ℕ) (p : Postings) → removed t (renamed_postings f p) ≡ renamed_postings f (removed t p)
unfolding removed
removed_renamed f t p =
    ap₂ (λ (ns : Words ℕ) (xs : Numbers Waiting). record { numbers = ns; waiting = xs })
    (ap (λ o. numbers_without o p.numbers) (lookup-mapped (renamed_waiting f) (at_number t) p.waiting)
    ∙ numbers_without_renamed f (number_lookup t p.waiting) p.numbers)
    (remove_entry-mapped (renamed_waiting f) (at_number t) p.waiting)

pub each_removed_renamed : (f : Handle → Handle) (ts : List ℕ) (p : Postings) →
    each_removed ts (renamed_postings f p) ≡ renamed_postings f (each_removed ts p)
each_removed_renamed f [] p = refl
each_removed_renamed f (t ∷ ts) p = ap (each_removed ts) (removed_renamed f t p) ∙ each_removed_renamed f ts (removed t p)

pub waiting_on_renamed : (f : Handle → Handle) → KeepsApart f → (ct : Handle) (xs : Numbers Waiting) →
    waiting_on (f ct) (mapped (renamed_waiting f) xs) ≡ waiting_on ct xs
waiting_on_renamed f k ct [] = refl
waiting_on_renamed f k ct (x ∷ xs) =
    ap₂ (λ b ts. cond b (x.0 ∷ ts) ts) (k.same x.1.ct ct) (waiting_on_renamed f k ct xs)

pub cancelled_renamed : (f : Handle → Handle) → KeepsApart f → (ct : Handle) (p : Postings) →
    cancelled (f ct) (renamed_postings f p) ≡ renamed_postings f (cancelled ct p)
unfolding cancelled
cancelled_renamed f k ct p =
    ap (λ ts. each_removed ts (renamed_postings f p)) (waiting_on_renamed f k ct p.waiting)
    ∙ each_removed_renamed f (waiting_on ct p.waiting) p

-- ---- messages under way

pub age_of_renamed : (r : Renaming) (word : List ℕ) (fs : Flights) → age_of word (renamed_flights r fs) ≡ age_of word fs
age_of_renamed r word fs = refl

pub flight_at_renamed : (r : Renaming) (age : ℕ) (fs : Flights) →
    flight_at age (renamed_flights r fs) ≡ option_map (renamed_flight r) (flight_at age fs)
flight_at_renamed r age fs = lookup-mapped (renamed_flight r) (at_number age) fs.messages

pub word_in_renamed : (r : Renaming) (o : Option Flight) → word_in (option_map (renamed_flight r) o) ≡ word_in o
word_in_renamed r None = refl
word_in_renamed r (Some x) = refl

pub same_lane_renamed : (r : Renaming) (a b : Header) → same_lane (renamed_header r a) (renamed_header r b) ≡ same_lane a b
same_lane_renamed r a b = refl

-- the lane of a header as it is, which is that of the header renamed
pub first_of_lane_renamed : (r : Renaming) (h : Header) (xs : Numbers Flight) →
    first_of_lane h (mapped (renamed_flight r) xs) ≡ first_of_lane h xs
first_of_lane_renamed r h [] = refl
first_of_lane_renamed r h (x ∷ xs) = ap (cond (same_lane h x.1.message.header) (Some x.0)) (first_of_lane_renamed r h xs)

header_lane : (r : Renaming) (h : Header) (xs : Numbers Flight) → first_of_lane (renamed_header r h) xs ≡ first_of_lane h xs
header_lane r h [] = refl
header_lane r h (x ∷ xs) = ap (cond (same_lane h x.1.message.header) (Some x.0)) (header_lane r h xs)

pub oldest_renamed : (r : Renaming) (h : Header) (fs : Flights) → oldest (renamed_header r h) (renamed_flights r fs) ≡ oldest h fs
oldest_renamed r h fs = header_lane r h (renamed_flights r fs).messages ∙ first_of_lane_renamed r h fs.messages

pub taken_renamed : (r : Renaming) (age : ℕ) (fs : Flights) → taken age (renamed_flights r fs) ≡ renamed_flights r (taken age fs)
unfolding taken
taken_renamed r age fs =
    ap₂ (λ (xs : Numbers Flight) (ws : Words ℕ). record { sent = fs.sent; messages = xs; words = ws })
    (remove_entry-mapped (renamed_flight r) (at_number age) fs.messages)
    (ap (λ o. words_without o fs.words) (ap word_in (flight_at_renamed r age fs) ∙ word_in_renamed r (flight_at age fs)))

pub with_sent_renamed : (r : Renaming) (m : Sent) (word : Option (List ℕ)) (fs : Flights) →
    with_sent (renamed_message r m) word (renamed_flights r fs) ≡ renamed_flights r (with_sent m word fs)
unfolding with_sent
with_sent_renamed r m word fs =
    ap (λ (xs : Numbers Flight). record { sent = one_more fs.sent; messages = xs; words = words_with word fs.sent fs.words })
    (insert_entry-mapped (renamed_flight r) nat_cmp fs.sent (record { word = word; message = m }) fs.messages)
