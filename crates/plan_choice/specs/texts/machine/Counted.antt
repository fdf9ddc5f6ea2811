-- How many steps each rank has made at a moment, and how many it makes in all.
use Rattle.std.specs.Prelude.{ℕ, ◌==◌, ◌+◌, ◌*◌, List, if◌then◌else◌, length, sum_by}
use Rattle.plan_core.specs.Plan.{from_to}
use Rattle.coll_lang.specs.declared.choices.ChoiceKind.{ChoiceKind}
use Rattle.plan_choice.specs.texts.machine.Choices.{choice_at}
use Rattle.coll_lang.specs.declared.choices.ChoiceKind.TheVariants.{Elect, Tickets}
use Rattle.plan_choice.specs.texts.machine.Machine.{Moment, Phase}
use Rattle.plan_choice.specs.texts.machine.Machine.Phase.{Answered, Asked, Idle, Learned, Read, Reading, Served, Told}

-- the steps of a rank in one step of the text, once it is told: firings and answers
abbrev pub told_steps : ChoiceKind → ℕ
told_steps Elect = 5
told_steps Tickets = 3

-- the requests that rank 0 takes of a rank in one step of the text
abbrev pub told_requests : ChoiceKind → ℕ
told_requests Elect = 2
told_requests Tickets = 1

-- those made so far
abbrev pub home_steps : ChoiceKind → Phase → ℕ
home_steps k Idle = 0
home_steps k Asked = 1
home_steps k (Served old) = 1
home_steps k (Answered old) = 2
home_steps k (Reading old) = 3
home_steps k (Read old value) = 3
home_steps Elect (Learned old value) = 4
home_steps Tickets (Learned old value) = 2
home_steps Elect (Told old value) = 5
home_steps Tickets (Told old value) = 3

-- those taken so far
abbrev pub requests_taken : ChoiceKind → Phase → ℕ
requests_taken k Idle = 0
requests_taken k Asked = 0
requests_taken k (Served old) = 1
requests_taken k (Answered old) = 1
requests_taken k (Reading old) = 1
requests_taken k (Read old value) = 2
requests_taken Elect (Learned old value) = 2
requests_taken Tickets (Learned old value) = 1
requests_taken Elect (Told old value) = 2
requests_taken Tickets (Told old value) = 1

-- over all steps of the text
abbrev pub over_steps : List ChoiceKind → (ChoiceKind → Phase → ℕ) → (ℕ → Phase) → ℕ
over_steps ks many phase = sum_by (λ s. many (choice_at ks s) (phase s)) (from_to 0 (length ks))

-- and over all ranks
abbrev pub over_ranks : ℕ → List ChoiceKind → (ChoiceKind → Phase → ℕ) → (ℕ → ℕ → Phase) → ℕ
over_ranks ranks ks many phase = sum_by (λ q. over_steps ks many (phase q)) (from_to 0 ranks)

-- what rank r has done: its start, its firings and answers, and on rank 0 all requests
abbrev pub steps_made : ℕ → List ChoiceKind → Moment → ℕ → ℕ
steps_made ranks ks m r =
    (if m.started r then 1 else 0)
    + (over_steps ks home_steps (m.phase r) + (if r == 0 then over_ranks ranks ks requests_taken m.phase else 0))

-- what it does in all
abbrev pub steps_due : ℕ → List ChoiceKind → ℕ → ℕ
steps_due ranks ks r =
    1
    + (sum_by (λ s. told_steps (choice_at ks s)) (from_to 0 (length ks))
    + (if r == 0 then ranks * sum_by (λ s. told_requests (choice_at ks s)) (from_to 0 (length ks)) else 0))
