-- The interfaces of a scene, one a rank: looked up, put in and taken out, in two runs and in each.
use Rattle.std.proofs.Common.{◌≡◌, ℕ, true, false, [], ◌∷◌, Option, Some, None, refl, sym, subst, ◌∙◌, cond, is_some, arith}
use Rattle.std.proofs.lemmas.Bool.Decides.{nat_tests}
use Rattle.std.specs.Ordering.{nat_cmp}
use Rattle.std.specs.declared.cmp.Ordering.TheVariants.{Less, Equal, Greater}
use Rattle.std.specs.Ordering.{match_ordering}
use Rattle.log_answers.specs.names.Keys.{Numbers, at_number, number_lookup, with_number, without_number}
use Rattle.log_seats.specs.declared.seats.Seat.{Seat}
use Rattle.slot_laws.specs.Alike.{IsConsistent, SeatsAlike}
use Rattle.slot_laws.proofs.terms.Scenes.{AllAlike, AllConsistent, MayBeAlike, Renamings, at}
use Rattle.slot_laws.proofs.Maps.{at_number_is}

pub number_is : (q k : ℕ) → at_number q k ≡ true → q ≡ k
number_is q k e = let f = sym (at_number_is q k) ∙ e in grind (arith, nat_tests)

pub number_self : (k : ℕ) → at_number k k ≡ true
number_self k = at_number_is k k ∙ grind (arith, nat_tests)

module _ (g : Renamings) where
  pub lookup_alike : (q : ℕ) (es fs : Numbers Seat) → AllAlike g es fs → MayBeAlike g q (number_lookup q es) (number_lookup q fs)
  lookup_alike q _ _ AllAlike.None_open = tt
  lookup_alike q _ _ (AllAlike.One_more k s t es fs at_rank alike rest) =
      elim (at_number q k) as (λ b. at_number q k ≡ b →
      MayBeAlike g q (cond b (Some s) (number_lookup q es)) (cond b (Some t) (number_lookup q fs))) [
        | true ↦ λ e. let same : k ≡ q = sym (number_is q k e) in (at_rank ∙ same, subst (λ n. SeatsAlike (at g n) s t) same alike)
        | false ↦ λ e. lookup_alike q es fs rest
      ] refl

  pub insert_alike : (k : ℕ) (s t : Seat) → s.nic.rank ≡ k → SeatsAlike (at g k) s t → (es fs : Numbers Seat) → AllAlike g es fs →
      AllAlike g (with_number k s es) (with_number k t fs)
  insert_alike k s t at_rank alike _ _ AllAlike.None_open = AllAlike.One_more k s t [] [] at_rank alike AllAlike.None_open
  insert_alike k s t at_rank alike _ _ (AllAlike.One_more l u v es fs at_l alike_l rest) =
      elim (nat_cmp k l) as (λ c. nat_cmp k l ≡ c → AllAlike g
      (match_ordering c ((k, s) ∷ (l, u) ∷ es) ((l, s) ∷ es) ((l, u) ∷ with_number k s es))
      (match_ordering c ((k, t) ∷ (l, v) ∷ fs) ((l, t) ∷ fs) ((l, v) ∷ with_number k t fs))) [
        | Less ↦ λ e. AllAlike.One_more k s t ((l, u) ∷ es) ((l, v) ∷ fs) at_rank alike (AllAlike.One_more l u v es fs at_l alike_l rest)
        | Equal ↦ λ e. let same : k ≡ l = number_is k l (rw e refl) in
            AllAlike.One_more l s t es fs (at_rank ∙ same) (subst (λ n. SeatsAlike (at g n) s t) same alike) rest
        | Greater ↦ λ e. AllAlike.One_more l u v (with_number k s es) (with_number k t fs) at_l alike_l
            (insert_alike k s t at_rank alike es fs rest)
      ] refl

  pub remove_alike : (k : ℕ) (es fs : Numbers Seat) → AllAlike g es fs → AllAlike g (without_number k es) (without_number k fs)
  remove_alike k _ _ AllAlike.None_open = AllAlike.None_open
  remove_alike k _ _ (AllAlike.One_more l u v es fs at_l alike_l rest) =
      elim (at_number k l) as (λ b. AllAlike g (cond b es ((l, u) ∷ without_number k es)) (cond b fs ((l, v) ∷ without_number k fs))) [
        | true ↦ rest
        | false ↦ AllAlike.One_more l u v (without_number k es) (without_number k fs) at_l alike_l (remove_alike k es fs rest)
      ]

-- open in both, or in neither
pub is_open_alike : (g : Renamings) (q : ℕ) (a b : Option Seat) → MayBeAlike g q a b → is_some b ≡ is_some a
is_open_alike g q None None alike = refl
is_open_alike g q None (Some t) alike = absurd alike
is_open_alike g q (Some s) None alike = absurd alike
is_open_alike g q (Some s) (Some t) alike = refl

-- ---- in each

pub lookup_ordered : (q : ℕ) (es : Numbers Seat) (s : Seat) → AllConsistent es → number_lookup q es ≡ Some s → IsConsistent s
lookup_ordered q _ s AllConsistent.None_open is = cc
lookup_ordered q _ s (AllConsistent.One_more k u es ordered rest) is =
    elim (at_number q k) as (λ b. cond b (Some u) (number_lookup q es) ≡ Some s → IsConsistent s) [
      | true ↦ λ e. let same : u ≡ s = cc in subst IsConsistent same ordered
      | false ↦ λ e. lookup_ordered q es s rest e
    ] is

pub insert_ordered : (k : ℕ) (s : Seat) → IsConsistent s → (es : Numbers Seat) → AllConsistent es → AllConsistent (with_number k s es)
insert_ordered k s ordered _ AllConsistent.None_open = AllConsistent.One_more k s [] ordered AllConsistent.None_open
insert_ordered k s ordered _ (AllConsistent.One_more l u es ordered_l rest) =
    elim (nat_cmp k l) as (λ c. AllConsistent (match_ordering c ((k, s) ∷ (l, u) ∷ es) ((l, s) ∷ es) ((l, u) ∷ with_number k s es))) [
      | Less ↦ AllConsistent.One_more k s ((l, u) ∷ es) ordered (AllConsistent.One_more l u es ordered_l rest)
      | Equal ↦ AllConsistent.One_more l s es ordered rest
      | Greater ↦ AllConsistent.One_more l u (with_number k s es) ordered_l (insert_ordered k s ordered es rest)
    ]

pub remove_ordered : (k : ℕ) (es : Numbers Seat) → AllConsistent es → AllConsistent (without_number k es)
remove_ordered k _ AllConsistent.None_open = AllConsistent.None_open
remove_ordered k _ (AllConsistent.One_more l u es ordered_l rest) =
    elim (at_number k l) as (λ b. AllConsistent (cond b es ((l, u) ∷ without_number k es))) [
      | true ↦ rest
      | false ↦ AllConsistent.One_more l u (without_number k es) ordered_l (remove_ordered k es rest)
    ]
