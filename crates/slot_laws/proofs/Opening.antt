-- An interface is opened, in two runs: the new ones are alike, and in order.
use Rattle.std.proofs.Common.{◌≡◌, ℕ, suc, zero, ◌==◌, true, false, List, ◌∷◌, map, Option, Some, None, refl, ap, sym, subst, ◌∙◌}
use Rattle.std.proofs.Common.{cond, arith, option_map, replicate, codes}
use Rattle.std.proofs.lemmas.Bool.Decides.{nat_tests}
use Rattle.ptl_types.specs.declared.handles.Handle.{Handle}
use Rattle.ptl_types.specs.declared.calls.Limits.{Limits}
use Rattle.ni_model.specs.State.{opened}
use Rattle.guarded_ni.specs.declared.faults.Misuse.TheVariants.{UnfitLimits, UnknownRank}
use Rattle.log_words.specs.Words.{Rest}
use Rattle.log_words.specs.declared.call_fields.said.Opening.{Opening}
use Rattle.log_answers.specs.declared.owed.Sort.{Sort}
use Rattle.log_answers.specs.declared.owed.Sort.TheVariants.{Counter, Queue, Descriptor, Entry}
use Rattle.log_answers.specs.names.Keys.{number_lookup, with_number}
use Rattle.log_seats.specs.Answers.{misuse_word, ok, says}
use Rattle.log_seats.specs.Seats.{new_seat}
use Rattle.log_seats.specs.declared.seats.Seat.{Seat}
use Rattle.log_verdict.specs.Answering.{Came, came, said_or_owed}
use Rattle.log_verdict.specs.Scenes.{seat_at}
use Rattle.log_verdict.specs.Steps.{Opens, region_of, with_open}
use Rattle.log_verdict.specs.declared.scenes.Scene.{Scene}
use Rattle.slot_laws.specs.Renaming.{Renaming}
use Rattle.slot_laws.specs.Renamed.{renamed, renamed_index}
use Rattle.slot_laws.specs.Alike.{IsConsistent, KnownIn, SeatsAlike}
use Rattle.slot_laws.specs.Alike.{is_known}
use Rattle.slot_laws.proofs.terms.Scenes.{AllAlike, Renamings, ScenesAlike, at, given_at, given_in}
use Rattle.slot_laws.proofs.terms.Kin.{Kin, KinCame}
use Rattle.slot_laws.proofs.Lines.{said_alike, stays_kin}
use Rattle.slot_laws.proofs.Maps.{number_put}
use Rattle.slot_laws.proofs.Nothing.{none_linked, opened_nothing}
use Rattle.slot_laws.proofs.Rows.{insert_alike, insert_ordered}
use Rattle.slot_laws.proofs.SameNames.{none_agree, none_renamed}
use Rattle.slot_laws.proofs.Stepping.{came_kin, kin_alike, plain_kin}

-- ---- a new interface

empty_indices : (r : Renaming) (n : ℕ) → map (option_map (renamed_index r)) (replicate n None) ≡ replicate n None
empty_indices r zero = refl
empty_indices r (suc n) = ap (λ is. None ∷ is) (empty_indices r n)

opened_renamed : (r : Renaming) (rank ranks : ℕ) (l : Limits) (region : List ℕ) →
    renamed r (opened rank ranks l region) ≡ opened rank ranks l region
opened_renamed r rank ranks l region = ap (λ is. record (opened rank ranks l region) { indices = is }) (empty_indices r l.pts)

pub new_alike : (r : Renaming) (rank ranks : ℕ) (l : Limits) (region : List ℕ) →
    SeatsAlike r (new_seat (opened rank ranks l region)) (new_seat (opened rank ranks l region))
new_alike r rank ranks l region = record {
  near = record {
    nic = sym (opened_renamed r rank ranks l region);
    counters = none_renamed r.ct;
    queues = none_renamed r.eq;
    descriptors = none_renamed (r.md rank);
    operations = refl;
  };
  entries = none_agree (KnownIn (opened rank ranks l region)) r.me;
}

none_known_in : (h : Handle) (rank ranks : ℕ) (l : Limits) (region : List ℕ) → is_known h (opened rank ranks l region) ≡ false
none_known_in h rank ranks l region = rw (none_linked h l.pts) refl

pub new_ordered : (rank ranks : ℕ) (l : Limits) (region : List ℕ) → IsConsistent (new_seat (opened rank ranks l region))
new_ordered rank ranks l region = record {
  counters = λ h e. absurd (cc);
  queues = λ h e. absurd (cc);
  descriptors = λ h e. absurd (cc);
  cts = λ a b i j e. absurd (cc);
  eqs = λ a b i j e. absurd (cc);
  mds = λ a b i j e. absurd (cc);
  entries = λ a b i j e. let none : is_known a (opened rank ranks l region) ≡ false = none_known_in a rank ranks l region in absurd (cc);
  nothing = opened_nothing rank ranks l region;
}

-- ---- it is opened at a rank that has none

open_scene : (h : Renamings) (s t : Scene) (rank : ℕ) (o : Opening) → ScenesAlike h s t →
    ScenesAlike h (with_open rank o s) (with_open rank o t)
open_scene h s t rank o alike = record {
  ranks = alike.ranks;
  any_order = alike.any_order;
  seats =
      subst (λ n. AllAlike h (with_open rank o s).seats (with_number rank (new_seat (opened rank n o.limits (region_of o.region))) t.seats))
      (sym alike.ranks)
      (insert_alike h rank (new_seat (opened rank s.ranks o.limits (region_of o.region)))
      (new_seat (opened rank s.ranks o.limits (region_of o.region))) refl (new_alike (at h rank) rank s.ranks o.limits (region_of o.region))
      s.seats t.seats alike.seats);
  flights = alike.flights;
}

open_given : (s : Scene) (rank : ℕ) (o : Opening) → seat_at rank s ≡ None → (k : ℕ) (sort : Sort) →
    given_at (with_open rank o s).seats k sort ≡ given_at s.seats k sort
open_given s rank o none k sort =
    let seat : Seat = new_seat (opened rank s.ranks o.limits (region_of o.region)) in
    ap (given_in sort) (number_put k rank seat s.seats)
    ∙ elim (k == rank) as (λ b. (k == rank) ≡ b → given_in sort (cond b (Some seat) (number_lookup k s.seats)) ≡ given_at s.seats k sort) [
      | true ↦ λ e. let same : k ≡ rank = grind (arith, nat_tests) in
          nothing sort ∙ sym (ap (given_in sort) (ap (λ n. number_lookup n s.seats) same ∙ none))
      | false ↦ λ e. refl
    ] refl
  where
    nothing : (z : Sort) → given_in z (Some (new_seat (opened rank s.ranks o.limits (region_of o.region)))) ≡ 0
    nothing Counter = refl
    nothing Queue = refl
    nothing Descriptor = refl
    nothing Entry = refl

module _ (g : Renamings) (s t : Scene) (kin : Kin g s t) (rank : ℕ) (o : Opening) (said : Option Rest) where
  same_ranks : t.ranks ≡ s.ranks
  same_ranks = (kin_alike g s t kin).ranks

  step_alike : (word : List ℕ) → said_or_owed t (says word) said ≡ said_or_owed s (says word) said
  step_alike word = said_alike g kin.are s t (kin_alike g s t kin) word said

  refused : (word : List ℕ) (c d : Came) → c ≡ came s (said_or_owed s (says word) said) → d ≡ came t (said_or_owed t (says word) said) →
      KinCame c d
  refused word c d m n =
      came_kin m (n ∙ ap (came t) (step_alike word)) (stays_kin g s t (said_or_owed s (says word) said) kin)

  is_opened : (c d : Came) → seat_at rank s ≡ None → c ≡ came (with_open rank o s) (said_or_owed s (ok tt) said) →
      d ≡ came (with_open rank o t) (said_or_owed t (ok tt) said) → KinCame c d
  is_opened c d none m n =
      came_kin m n (plain_kin g s t (came (with_open rank o s) (said_or_owed s (ok tt) said))
      (came (with_open rank o t) (said_or_owed t (ok tt) said)) kin
      (λ h are before scenes. record {
        step = said_alike h are s t scenes (codes "ok") said;
        scene = open_scene h s t rank o scenes;
      })
      (λ goes k sort. open_given s rank o none k sort)
      (λ goes. (
        insert_ordered rank (new_seat (opened rank s.ranks o.limits (region_of o.region)))
            (new_ordered rank s.ranks o.limits (region_of o.region)) s.seats kin.here,
        insert_ordered rank (new_seat (opened rank t.ranks o.limits (region_of o.region)))
            (new_ordered rank t.ranks o.limits (region_of o.region)) t.seats kin.there,
      )))

  opens : (c d : Came) → seat_at rank s ≡ None → Opens rank o said s c → Opens rank o said t d → KinCame c d
  opens c d none (Opens.Opened below fit m) (Opens.Opened below' fit' n) = is_opened c d none m n
  opens c d none (Opens.Opened below fit m) (Opens.NoRank past n) = absurd (omega (arith, same_ranks))
  opens c d none (Opens.Opened below fit m) (Opens.NoFit below' unfit n) = absurd (unfit fit)
  opens c d none (Opens.NoRank past m) (Opens.Opened below fit n) = absurd (omega (arith, same_ranks))
  opens c d none (Opens.NoRank past m) (Opens.NoRank past' n) = refused (misuse_word UnknownRank) c d m n
  opens c d none (Opens.NoRank past m) (Opens.NoFit below unfit n) = absurd (omega (arith, same_ranks))
  opens c d none (Opens.NoFit below unfit m) (Opens.Opened below' fit n) = absurd (unfit fit)
  opens c d none (Opens.NoFit below unfit m) (Opens.NoRank past n) = absurd (omega (arith, same_ranks))
  opens c d none (Opens.NoFit below unfit m) (Opens.NoFit below' unfit' n) = refused (misuse_word UnfitLimits) c d m n

pub opens_kin : (g : Renamings) (s t : Scene) → Kin g s t → (rank : ℕ) (o : Opening) (said : Option Rest) (c d : Came) →
    seat_at rank s ≡ None →
    Opens rank o said s c → Opens rank o said t d → KinCame c d
opens_kin g s t kin rank o said c d none m n = opens g s t kin rank o said c d none m n
