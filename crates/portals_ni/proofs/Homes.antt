-- What a start, an answer, a binding and a release leave of what an interface keeps.
use Rattle.std.proofs.Common.{◌≡◌, ℕ, ◌+◌, ◌≤◌, Bool, true, false, not, ◌&&◌, ◌||◌, List, [], ◌∷◌, Option, Some, None, nat_le, nat_lt}
use Rattle.std.proofs.Common.{length, is_some, if◌then◌else◌, refl, subst, ◌∙◌, arith}
use Rattle.std.specs.Prelude.{All}
use Rattle.std.proofs.lemmas.Bool.Decides.{nat_tests}
use Rattle.std.proofs.lemmas.List.Elements.{All-head, All-tail, All-cons, All-push, All-filter}
use Rattle.op_laws.proofs.Bytes.{length-written}
use Rattle.ptl_types.specs.declared.handles.Handle.{Handle}
use Rattle.ptl_types.specs.declared.headers.Header.{Header}
use Rattle.ptl_types.specs.declared.headers.MessageKind.{MessageKind}
use Rattle.ptl_types.specs.declared.headers.MessageKind.TheVariants.{Reply}
use Rattle.ptl_types.specs.declared.calls.PutArgs.{PutArgs}
use Rattle.ptl_types.specs.declared.calls.GetArgs.{GetArgs}
use Rattle.ptl_types.specs.declared.calls.TriggeredOp.{TriggeredOp}
use Rattle.ptl_types.specs.declared.calls.TriggeredOp.TheVariants.{Put, Get, Atomic, FetchAtomic, Swap, Inc, Set}
use Rattle.ptl_types.specs.Handles.{same_handle}
use Rattle.ptl_types.specs.Elements.{written}
use Rattle.ptl_types.specs.Messages.{Sent, bytes_due}
use Rattle.ni_model.specs.declared.Bound.{Bound}
use Rattle.ni_model.specs.Tables.{Live, Table, lookup, change, change_one, changed, is_live, with_new, without}
use Rattle.ni_model.specs.Counts.{successes}
use Rattle.ni_model.specs.Events.{is_reply}
use Rattle.ni_model.specs.Answers.{Home, bound_at, is_due, memory_home, one_answer, counter_home, one_less, awaits_less, came_home}
use Rattle.ni_model.specs.Answers.{lost_answer, answered_at, answered}
use Rattle.ni_model.specs.Starts.{header_of, one_awaited, awaits_more, send_counter, counted_on, started_by, started}
use Rattle.ni_model.specs.Conditions.{IsBoundIn, IsKept}
use Rattle.ni_model.specs.Refusals.{holds_part, action_is_live, put_fits, get_fits, action_fits, action_fault, action_names_md}
use Rattle.initiator_engine.specs.Initiators.{AreBoundIn}
use Rattle.initiator_engine.proofs.Bounds.{bound_has}
use Rattle.portals_ni.proofs.Counts.{ChangesAt, changes-none, changes-counted, lookup-push, lookup-without}

-- ---- parts of descriptors

pub bound-push : (n slot : ℕ) (w : Bound) (mds : Table Bound) → AreBoundIn n mds → IsBoundIn n w → AreBoundIn n (with_new slot w mds)
bound-push n slot w mds all is = All-push (λ (x : Live Bound). IsBoundIn n x.value) mds.live _ all is

pub bound-without : (n : ℕ) (h : Handle) (mds : Table Bound) → AreBoundIn n mds → AreBoundIn n (without h mds)
bound-without n h mds all = All-filter (λ (x : Live Bound). not (same_handle x.handle h)) (λ (x : Live Bound). IsBoundIn n x.value)
    mds.live all

-- a change that leaves the descriptors as they are
abbrev pub KeepsMd : (Bound → Bound) → Type 0
KeepsMd f = (b : Bound) → (f b).md ≡ b.md

one-bound : (n : ℕ) (h : Handle) (f : Bound → Bound) (x : Live Bound) → KeepsMd f → IsBoundIn n x.value →
    IsBoundIn n (change_one h f x).value
one-bound n h f x keeps is =
    elim (same_handle x.handle h) as (λ b. IsBoundIn n (if b then f x.value else x.value)) [
      | true ↦ rw (keeps x.value) is
      | false ↦ is
    ]

all-bound : (n : ℕ) (h : Handle) (f : Bound → Bound) (xs : List (Live Bound)) → KeepsMd f →
    All (λ (x : Live Bound). IsBoundIn n x.value) xs → All (λ (x : Live Bound). IsBoundIn n x.value) (change h f xs)
all-bound n h f [] keeps all = all
all-bound n h f (x ∷ xs) keeps all =
    All-cons (λ (y : Live Bound). IsBoundIn n y.value) (change_one h f x) (change h f xs)
    (one-bound n h f x keeps (All-head (λ (y : Live Bound). IsBoundIn n y.value) x xs all))
    (all-bound n h f xs keeps (All-tail (λ (y : Live Bound). IsBoundIn n y.value) x xs all))

-- ---- what a descriptor holds

-- each handle but those that are skipped names a descriptor that holds what it held
abbrev pub HoldsOn : (Handle → Bool) → Table Bound → Table Bound → Type 0
HoldsOn skips old new = (k : Handle) (at n : ℕ) → skips k ≡ false → holds_part (lookup k old.live) at n ≡ true →
    holds_part (lookup k new.live) at n ≡ true

abbrev pub skips_none : Handle → Bool
skips_none k = false

held-some : (o : Option Bound) (at n : ℕ) → holds_part o at n ≡ true → is_some o ≡ true
held-some None at n e = cc
held-some (Some b) at n e = refl

pub holds-push : (slot : ℕ) (w : Bound) (mds : Table Bound) → HoldsOn skips_none mds (with_new slot w mds)
holds-push slot w mds = λ k at n apart holds. rw (lookup-push k _ mds.live (held-some (lookup k mds.live) at n holds)) holds

holds-change : (k h : Handle) (f : Bound → Bound) (at n : ℕ) (xs : List (Live Bound)) → KeepsMd f → holds_part (lookup k xs) at n ≡ true →
    holds_part (lookup k (change h f xs)) at n ≡ true
holds-change k h f at n [] keeps holds = holds
holds-change k h f at n (x ∷ xs) keeps holds =
    elim (same_handle x.handle k) as (λ b. holds_part (if b then Some x.value else lookup k xs) at n ≡ true →
    holds_part (if b then Some (change_one h f x).value else lookup k (change h f xs)) at n ≡ true) [
      | true ↦ λ is. elim (same_handle x.handle h) as (λ b. holds_part (Some (if b then f x.value else x.value)) at n ≡ true) [
        | true ↦ rw (keeps x.value) is
        | false ↦ is
      ]
      | false ↦ λ is. holds-change k h f at n xs keeps is
    ] holds

pub holds-changed : (h : Handle) (f : Bound → Bound) (mds : Table Bound) → KeepsMd f → HoldsOn skips_none mds (changed h f mds)
holds-changed h f mds keeps = λ k at n apart holds. holds-change k h f at n mds.live keeps holds

pub holds-without : (h : Handle) (mds : Table Bound) → HoldsOn (λ k. same_handle k h) mds (without h mds)
holds-without h mds = λ k at n apart holds. rw (lookup-without k h mds.live apart) holds

-- ---- what an action names

abbrev pub action_skips : (Handle → Bool) → TriggeredOp → Bool
action_skips skips (Put a) = skips a.md
action_skips skips (Get g) = skips g.md
action_skips skips (Atomic a op ty) = skips a.md
action_skips skips (FetchAtomic g a op ty) = skips g.md || skips a.md
action_skips skips (Swap g a op ty operand) = skips g.md || skips a.md
action_skips skips _ = false

pub skips-none : (d : TriggeredOp) → action_skips skips_none d ≡ false
skips-none (Put a) = refl
skips-none (Get g) = refl
skips-none (Atomic a op ty) = refl
skips-none (FetchAtomic g a op ty) = refl
skips-none (Swap g a op ty operand) = refl
skips-none (Inc ct by) = refl
skips-none (Set ct to) = refl

pub skips-md : (md : Handle) (d : TriggeredOp) → action_names_md md d ≡ action_skips (λ k. same_handle k md) d
skips-md md (Put a) = refl
skips-md md (Get g) = refl
skips-md md (Atomic a op ty) = refl
skips-md md (FetchAtomic g a op ty) = refl
skips-md md (Swap g a op ty operand) = refl
skips-md md (Inc ct by) = refl
skips-md md (Set ct to) = refl

pub neither : (a b : Bool) → a || b ≡ false → (a ≡ false) × (b ≡ false)
neither true b e = cc
neither false true e = cc
neither false false e = (refl, refl)

both : (a b : Bool) → a && b ≡ true → (a ≡ true) × (b ≡ true)
both true true e = (refl, refl)
both true false e = cc
both false b e = cc

and-both : (a b : Bool) → a ≡ true → b ≡ true → a && b ≡ true
and-both a b p q = rw (p, q) refl

fetch-on : (skips : Handle → Bool) (old new : Table Bound) (g : GetArgs) (a : PutArgs) → HoldsOn skips old new →
    skips g.md || skips a.md ≡ false → get_fits g old && put_fits a old ≡ true → get_fits g new && put_fits a new ≡ true
fetch-on skips old new g a holds apart fits =
    let apart_of = neither (skips g.md) (skips a.md) apart in
    let fits_of = both (get_fits g old) (put_fits a old) fits in
    and-both (get_fits g new) (put_fits a new) (holds g.md g.local_offset g.length apart_of.0 fits_of.0)
    (holds a.md a.local_offset a.length apart_of.1 fits_of.1)

pub fits-on : (skips : Handle → Bool) (old new : Table Bound) (d : TriggeredOp) → HoldsOn skips old new → action_skips skips d ≡ false →
    action_fits d old ≡ true → action_fits d new ≡ true
fits-on skips old new (Put a) holds apart fits = holds a.md a.local_offset a.length apart fits
fits-on skips old new (Get g) holds apart fits = holds g.md g.local_offset g.length apart fits
fits-on skips old new (Atomic a op ty) holds apart fits = holds a.md a.local_offset a.length apart fits
fits-on skips old new (FetchAtomic g a op ty) holds apart fits = fetch-on skips old new g a holds apart fits
fits-on skips old new (Swap g a op ty operand) holds apart fits = fetch-on skips old new g a holds apart fits
fits-on skips old new (Inc ct by) holds apart fits = refl
fits-on skips old new (Set ct to) holds apart fits = refl

-- what an action names in a live descriptor is live
put-live : (a : PutArgs) (mds : Table Bound) → put_fits a mds ≡ true → is_live a.md mds ≡ true
put-live a mds fits = held-some (lookup a.md mds.live) a.local_offset a.length fits

get-live : (g : GetArgs) (mds : Table Bound) → get_fits g mds ≡ true → is_live g.md mds ≡ true
get-live g mds fits = held-some (lookup g.md mds.live) g.local_offset g.length fits

fetch-live : (g : GetArgs) (a : PutArgs) (mds : Table Bound) → get_fits g mds && put_fits a mds ≡ true →
    is_live g.md mds && is_live a.md mds ≡ true
fetch-live g a mds fits = let f = both (get_fits g mds) (put_fits a mds) fits in
    and-both (is_live g.md mds) (is_live a.md mds) (get-live g mds f.0) (put-live a mds f.1)

fits-live : (d : TriggeredOp) (mds : Table Bound) → action_fits d mds ≡ true → action_is_live d mds ≡ true
fits-live (Put a) mds fits = put-live a mds fits
fits-live (Get g) mds fits = get-live g mds fits
fits-live (Atomic a op ty) mds fits = put-live a mds fits
fits-live (FetchAtomic g a op ty) mds fits = fetch-live g a mds fits
fits-live (Swap g a op ty operand) mds fits = fetch-live g a mds fits
fits-live (Inc ct by) mds fits = refl
fits-live (Set ct to) mds fits = refl

pub fits-unrefused : (d : TriggeredOp) (mds : Table Bound) → action_fits d mds ≡ true → action_fault d mds ≡ None
fits-unrefused d mds fits = rw (fits-live d mds fits, fits) refl

-- ---- starts and answers

-- the initiator's parts before and after: the region keeps its length, the descriptors' parts lie in it, each holds what it
-- held, and no counting event changed but the one that is told
pub record KeepsHome (p q : Home) (ct : Option Handle) : Type 0 where
  pub size : length q.region ≡ length p.region
  pub bound : AreBoundIn (length p.region) q.mds
  pub holds : HoldsOn skips_none p.mds q.mds
  pub counts : ChangesAt ct p.cts q.cts

same-home : (p : Home) (ct : Option Handle) → AreBoundIn (length p.region) p.mds → KeepsHome p p ct
same-home p ct all = record { size = refl; bound = all; holds = λ k at n apart holds. holds; counts = changes-none ct p.cts }

pub keeps-awaited : KeepsMd one_awaited
keeps-awaited b = refl

pub keeps-less : KeepsMd one_less
keeps-less b = refl

more-bound : (n : ℕ) (h : Option Handle) (mds : Table Bound) → AreBoundIn n mds → AreBoundIn n (awaits_more h mds)
more-bound n None mds all = all
more-bound n (Some h) mds all = all-bound n h one_awaited mds.live keeps-awaited all

more-holds : (h : Option Handle) (mds : Table Bound) → HoldsOn skips_none mds (awaits_more h mds)
more-holds None mds = λ k at n apart holds. holds
more-holds (Some h) mds = holds-changed h one_awaited mds keeps-awaited

less-bound : (n : ℕ) (h : Option Handle) (mds : Table Bound) → AreBoundIn n mds → AreBoundIn n (awaits_less h mds)
less-bound n None mds all = all
less-bound n (Some h) mds all = all-bound n h one_less mds.live keeps-less all

less-holds : (h : Option Handle) (mds : Table Bound) → HoldsOn skips_none mds (awaits_less h mds)
less-holds None mds = λ k at n apart holds. holds
less-holds (Some h) mds = holds-changed h one_less mds keeps-less

by-keeps : (p : Home) (d : TriggeredOp) (o : Option Header) → AreBoundIn (length p.region) p.mds →
    KeepsHome p (started_by p d o).home (started_by p d o).counted
by-keeps p d None all = same-home p None all
by-keeps p d (Some h) all = record {
  size = refl;
  bound = more-bound (length p.region) h.home p.mds all;
  holds = more-holds h.home p.mds;
  counts = changes-counted (send_counter (bound_at (counted_on d) p.mds)) (successes 1) p.cts;
}

pub started-keeps : (rank : ℕ) (p : Home) (d : TriggeredOp) → AreBoundIn (length p.region) p.mds →
    KeepsHome p (started rank p d).home (started rank p d).counted
unfolding started
started-keeps rank p d all = by-keeps p d (header_of rank d) all

due-reply : (kind : MessageKind) (ok : Bool) (n : ℕ) → (is_reply kind && ok) ≡ true → bytes_due kind ok n ≡ n
due-reply Reply true n is = refl
due-reply Reply false n is = cc
due-reply _ ok n is = cc

fits-home : (h : Header) (b : Bound) → is_due h b ≡ true → (is_reply h.kind && h.ok) ≡ true → h.home_offset + h.length ≤ b.md.length
fits-home h b due is =
    let P : Bool → Type 0 = λ t. (nat_lt 0 b.awaits && (not t || nat_le (h.home_offset + h.length) b.md.length)) ≡ true in
    let both_of = both (nat_lt 0 b.awaits) (nat_le (h.home_offset + h.length) b.md.length) (subst P is due) in
    let fit : nat_le (h.home_offset + h.length) b.md.length ≡ true = both_of.1 in
    grind (arith, nat_tests)

home-written : (n : ℕ) (b : Bound) (m : Sent) (r : List ℕ) → length r ≡ n → IsKept m → IsBoundIn n b → is_due m.header b ≡ true →
    (is_reply m.header.kind && m.header.ok) ≡ true → length (written (b.md.start + m.header.home_offset) m.bytes r) ≡ length r
home-written n b m r size kept part due is =
    let len : length m.bytes ≡ m.header.length = kept ∙ due-reply m.header.kind m.header.ok m.header.length is in
    let fit : m.header.home_offset + m.header.length ≤ b.md.length = fits-home m.header b due is in
    length-written (b.md.start + m.header.home_offset) m.bytes r (omega arith)

length-home : (b : Bound) (m : Sent) (r : List ℕ) → IsKept m → IsBoundIn (length r) b → is_due m.header b ≡ true →
    length (memory_home b m r) ≡ length r
length-home b m r kept part due =
    elim (is_reply m.header.kind && m.header.ok) as (λ t. (is_reply m.header.kind && m.header.ok) ≡ t →
    length (if t then written (b.md.start + m.header.home_offset) m.bytes r else r) ≡ length r) [
      | true ↦ λ is. home-written (length r) b m r refl kept part due is
      | false ↦ λ is. refl
    ] refl

at-keeps : (p : Home) (m : Sent) (o : Option Bound) → AreBoundIn (length p.region) p.mds → IsKept m → bound_at m.header.home p.mds ≡ o →
    KeepsHome p (answered_at p m o).home (answered_at p m o).counted
at-keeps p m None all kept found = same-home p None all
at-keeps p m (Some b) all kept found =
    elim (is_due m.header b) as (λ t. is_due m.header b ≡ t → KeepsHome p (if t then came_home p m b else lost_answer p).home
    (if t then came_home p m b else lost_answer p).counted) [
      | true ↦ λ due. record {
        size = length-home b m p.region kept (bound_has (IsBoundIn (length p.region)) m.header.home p.mds b all found) due;
        bound = less-bound (length p.region) m.header.home p.mds all;
        holds = less-holds m.header.home p.mds;
        counts = changes-counted (counter_home m.header b) (one_answer m.header.ok) p.cts;
      }
      | false ↦ λ due. same-home p None all
    ] refl

pub answered-keeps : (p : Home) (m : Sent) → AreBoundIn (length p.region) p.mds → IsKept m →
    KeepsHome p (answered p m).home (answered p m).counted
unfolding answered
answered-keeps p m all kept = at-keeps p m (bound_at m.header.home p.mds) all kept refl
