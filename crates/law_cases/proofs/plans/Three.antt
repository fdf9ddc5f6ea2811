-- A sum to rank 0 over three ranks: a cut at rest in which a part came before the start, and in which two strays were received.
use Rattle.std.proofs.Common.{ℕ, zero, suc, false, ◌==◌, ◌≡◌, ◌<◌, ◌≤◌, ◌*◌, ◌^◌, List, [], ◌∷◌, Option, Some, None, refl, arith, lit<}
use Rattle.std.proofs.Common.{append-nil, ◌∙◌, if◌then◌else◌}
use Rattle.std.proofs.lemmas.Bool.{ne_eqb}
use Rattle.ptl_types.specs.Messages.{Sent}
use Rattle.ptl_types.specs.declared.elements.AtomicOp.{AtomicOp}
use Rattle.ptl_types.specs.declared.elements.AtomicOp.TheVariants.{Sum}
use Rattle.ptl_types.specs.declared.elements.ElemType.TheVariants.{U8}
use Rattle.ptl_types.specs.declared.headers.Lane.{Lane}
use Rattle.ptl_types.specs.declared.headers.Lane.TheVariants.{Answer, Request}
use Rattle.ni_model.specs.Answers.{answered}
use Rattle.ni_model.specs.Append.{append}
use Rattle.ni_model.specs.Arrive.{request}
use Rattle.ni_model.specs.Counts.{successes}
use Rattle.ni_model.specs.Ready.{fired, is_ready}
use Rattle.ni_model.specs.Starts.{started}
use Rattle.ni_model.specs.State.{target}
use Rattle.ni_model.specs.Tables.{lookup}
use Rattle.plan_core.specs.declared.Cell.{Cell}
use Rattle.plan_core.specs.declared.Link.{Link}
use Rattle.plan_core.specs.declared.LinkKind.{LinkKind}
use Rattle.plan_core.specs.declared.LinkKind.TheVariants.{Put, Atomic}
use Rattle.plan_core.specs.Plan.{Plan}
use Rattle.plan_core.specs.Values.{Inputs, value}
use Rattle.cuts.specs.view.Calls.{call_made}
use Rattle.cuts.specs.view.TriggeredOps.{link_header, link_message}
use Rattle.cuts.specs.view.Slots.{done_ct}
use Rattle.cuts.specs.start.Start.{bring, cell_started}
use Rattle.cuts.specs.histories.Cut.{IsAtRest, IsCut, got_by}
use Rattle.cuts.specs.histories.History.{Legal, Local, got}
use Rattle.cuts.specs.histories.History.Local.{Fire, Receive, Start}
use Rattle.cuts.specs.histories.Plans.{system_of}
use Rattle.cuts.specs.histories.System.{Histories, System, sent_by, state_at}
use Rattle.law_cases.proofs.plans.Broadcast.{bump_link, slots}

abbrev of_byte : ℕ → ℕ → Option AtomicOp → ℕ → Cell
of_byte r n op k = record { rank = r; ty = U8; op = op; length = n; needs = k }

abbrev along : LinkKind → ℕ → ℕ → Link
along kind a b = record { source = a; source_offset = 0; length = 1; target = b; target_offset = 0; kind = kind }

-- go cells 0 1 2, inputs 3 4 5, entries 6 7 8, and the tree: 9 at rank 2, 10 at rank 1, 11 at rank 0
abbrev plan : Plan
plan = record {
  ranks = 3;
  remote = false;
  cells = of_byte 0 0 None 1 ∷ of_byte 1 0 None 1 ∷ of_byte 2 0 None 1 ∷ of_byte 0 1 None 1 ∷ of_byte 1 1 None 1 ∷ of_byte 2 1 None 1
      ∷ of_byte 0 1 None 2 ∷ of_byte 1 1 None 2 ∷ of_byte 2 1 None 2 ∷ of_byte 2 1 (Some Sum) 1 ∷ of_byte 1 1 (Some Sum) 1 ∷ of_byte 0 1
      (Some Sum) 3 ∷ [];
  links = bump_link 0 3 ∷ bump_link 1 4 ∷ bump_link 2 5 ∷ bump_link 0 6 ∷ along Put 3 6 ∷ bump_link 1 7 ∷ along Put 4 7 ∷ bump_link 2 8
      ∷ along Put 5 8
      ∷ along Atomic 8 9 ∷ along Atomic 7 10 ∷ along Atomic 6 11 ∷ along Atomic 10 11 ∷ along Atomic 9 11 ∷ [];
}

abbrev inputs : Inputs
inputs = ((200 ∷ []) ∷ (100 ∷ []) ∷ (50 ∷ []) ∷ []) ∷ []

sum_of_all : value plan inputs 11 ≡ 94 ∷ []
unfolding value
sum_of_all = refl

abbrev carries : ℕ → ℕ → Sent
carries l b = link_message plan slots l (b ∷ [])

-- an atomic of job 2 from rank 2 to rank 0
abbrev stray : Sent
stray = record { header = record (link_header plan slots 13) { match_bits = 2 * 2 ^ 48 }; bytes = 1 ∷ [] }

-- rank 1's part comes before rank 0 has started, and a stray before the start and one at the end
abbrev order0 : List Local
order0 =
    Receive 1 Request (carries 12 100) ∷ Receive 2 Request stray ∷ Start ∷ Fire 0 ∷ Fire 1 ∷ Fire 2 ∷ Receive 0 Request (carries 4 200)
    ∷ Fire 3
    ∷ Receive 0 Request (carries 11 200) ∷ Receive 2 Request (carries 13 50) ∷ Fire 4 ∷ Fire 5 ∷ Fire 6 ∷ Fire 7 ∷ Receive 2 Request stray
    ∷ []

abbrev order1 : List Local
order1 =
    Start ∷ Fire 0 ∷ Fire 1 ∷ Fire 2 ∷ Receive 1 Request (carries 6 100) ∷ Fire 3 ∷ Receive 1 Request (carries 10 100) ∷ Fire 4
    ∷ Fire 5 ∷ Fire 6 ∷ Fire 7 ∷ Fire 8 ∷ []

abbrev order2 : List Local
order2 =
    Start ∷ Fire 0 ∷ Fire 1 ∷ Fire 2 ∷ Receive 2 Request (carries 8 50) ∷ Fire 3 ∷ Receive 2 Request (carries 9 50) ∷ Fire 4
    ∷ Fire 5 ∷ Fire 6 ∷ Fire 7 ∷ Fire 8 ∷ []

abbrev world : Histories
world r = if r == 0 then order0 else (if r == 1 then order1 else order2)

abbrev system : System
system = system_of plan inputs (λ r. slots)

pub below3 : (P : ℕ → Type 0) → P 0 → P 1 → P 2 → (r : ℕ) → r < 3 → P r
below3 P a b c zero h = a
below3 P a b c (suc zero) h = b
below3 P a b c (suc (suc zero)) h = c
below3 P a b c (suc (suc (suc r))) h = absurd (omega arith)

legal : (r : ℕ) → r < 3 → Legal (system.go r) false (system.first r) (world r)
unfolding target request answered started fired append call_made cell_started bring
legal = below3 (λ r. Legal (system.go r) false (system.first r) (world r)) (
  (refl, refl, refl, refl, tt),
  (
    (refl, refl, refl, refl, tt),
    (
      refl,
      (
        refl,
        (
          refl,
          (
            refl,
            (
              (refl, refl, refl, refl, tt),
              (
                refl,
                (
                  (refl, refl, refl, refl, tt),
                  (
                    (refl, refl, refl, refl, tt),
                    (refl, (refl, (refl, (refl, ((refl, refl, refl, refl, tt), tt))))),
                  ),
                ),
              ),
            ),
          ),
        ),
      ),
    ),
  ),
) (
  refl,
  (
    refl,
    (
      refl,
      (
        refl,
        (
          (refl, refl, refl, refl, tt),
          (refl, ((refl, refl, refl, refl, tt), (refl, (refl, (refl, (refl, (refl, tt))))))),
        ),
      ),
    ),
  ),
) (
  refl,
  (
    refl,
    (
      refl,
      (
        refl,
        (
          (refl, refl, refl, refl, tt),
          (refl, ((refl, refl, refl, refl, tt), (refl, (refl, (refl, (refl, (refl, tt))))))),
        ),
      ),
    ),
  ),
)

known : (r s : ℕ) (lane : Lane) → r < 3 → 3 ≤ s → got (world r) s lane ≡ []
known r zero lane h k = absurd (omega arith)
known r (suc zero) lane h k = absurd (omega arith)
known r (suc (suc zero)) lane h k = absurd (omega arith)
known r (suc (suc (suc s))) lane h k =
    let a : (0 == suc (suc (suc s))) ≡ false = ne_eqb 0 (suc (suc (suc s))) (λ i. absurd (omega (arith, i))) in
    let b : (1 == suc (suc (suc s))) ≡ false = ne_eqb 1 (suc (suc (suc s))) (λ i. absurd (omega (arith, i))) in
    let c : (2 == suc (suc (suc s))) ≡ false = ne_eqb 2 (suc (suc (suc s))) (λ i. absurd (omega (arith, i))) in
    below3 (λ r. got (world r) (suc (suc (suc s))) lane ≡ []) (rw (a, b, c) refl) (rw b refl) (rw c refl) r h

abbrev Agrees : Lane → ℕ → ℕ → Type 0
Agrees lane s d = got_by world d s lane ≡ sent_by system world s d lane

agree : (lane : Lane) (s d : ℕ) → s < 3 → d < 3 → Agrees lane s d
unfolding target request answered started fired append call_made cell_started bring
agree Request s d h k = below3 (λ s. Agrees Request s d) (below3 (λ d. Agrees Request 0 d) refl refl refl d k)
    (below3 (λ d. Agrees Request 1 d) refl refl refl d k) (below3 (λ d. Agrees Request 2 d) refl refl refl d k) s h
agree Answer s d h k = below3 (λ s. Agrees Answer s d) (below3 (λ d. Agrees Answer 0 d) refl refl refl d k)
    (below3 (λ d. Agrees Answer 1 d) refl refl refl d k) (below3 (λ d. Agrees Answer 2 d) refl refl refl d k) s h

cut : IsCut system world
cut = record {
  legal = legal;
  known = known;
  lanes = λ s d lane h k. ([], append-nil (got_by world d s lane) ∙ agree lane s d h k);
}

rest : IsAtRest system world
unfolding target request answered started fired append call_made cell_started bring
rest = record {
  started = below3 (λ r. 0 < _) (lit< tt) (lit< tt) (lit< tt);
  empty = λ s d lane h k. agree lane s d h k;
  idle = λ r t h. below3 (λ r. is_ready (state_at system world r) t ≡ false) refl refl refl r h;
}

-- rank 0 holds its input, its entry and the sum; after them lie the areas: nothing came early that is put, one that is combined
memory_of_rank_0 : (state_at system world 0).memory ≡ 200 ∷ 200 ∷ 94 ∷ 0 ∷ 100 ∷ 0 ∷ 0 ∷ []
unfolding target request answered started fired append call_made cell_started bring
memory_of_rank_0 = refl

done_at_rank_0 : lookup (done_ct slots) (state_at system world 0).cts.live ≡ Some (successes 4)
unfolding target request answered started fired append call_made cell_started bring
done_at_rank_0 = refl

strays_dropped : (state_at system world 0).drops ≡ 2
unfolding target request answered started fired append call_made cell_started bring
strays_dropped = refl

nothing_violated : (state_at system world 0).violations ≡ 0
unfolding target request answered started fired append call_made cell_started bring
nothing_violated = refl

no_header_left : (state_at system world 0).headers.unexpected ≡ []
unfolding target request answered started fired append call_made cell_started bring
no_header_left = refl
