-- Which steps are possible under a window, of three ranks that count acknowledgements; how many steps are left; and places of lanes.
use Rattle.std.proofs.Common.{◌&&◌, ◌==◌, ◌≡◌, [], ◌∷◌, refl, if◌then◌else◌}
use Rattle.ptl_types.specs.declared.headers.Lane.TheVariants.{Answer, Request}
use Rattle.ni_model.specs.Answers.{answered}
use Rattle.ni_model.specs.Append.{append}
use Rattle.ni_model.specs.Arrive.{request}
use Rattle.ni_model.specs.Ready.{fired}
use Rattle.ni_model.specs.Starts.{started}
use Rattle.ni_model.specs.State.{target}
use Rattle.cuts.specs.view.Calls.{call_made}
use Rattle.cuts.specs.start.Start.{bring, cell_started}
use Rattle.cuts.specs.histories.History.Local.{Fire as Fired, Receive as Received, Start as Started}
use Rattle.cuts.specs.histories.Moment.{Lanes}
use Rattle.cuts.specs.orders.Chosen.{Scene}
use Rattle.cuts.specs.declared.orders.Step.TheVariants.{Start, Deliver, Fire}
use Rattle.cuts.specs.windows.Left.{steps_left, steps_of}
use Rattle.cuts.specs.windows.Named.{named}
use Rattle.cuts.specs.windows.Places.{destination_at, kind_at, lane_place, source_at}
use Rattle.cuts.specs.windows.Possible.{possible_steps}
use Rattle.law_cases.proofs.plans.Acknowledged.{ack, each, says, system, three, whole}

-- nothing on its way, a request from rank 2 to rank 0, an acknowledgement from rank 0 to rank 2
abbrev nothing : Lanes
nothing s d lane = []

abbrev a_request : Lanes
a_request s d Request = if (s == 2) && (d == 0) then says 6 [] ∷ [] else []
a_request s d Answer = []

abbrev with_answer : Lanes
with_answer s d Request = a_request s d Request
with_answer s d Answer = if (s == 0) && (d == 2) then ack 6 ∷ [] else []

-- rank 0 has started; rank 2's operations 2 and 4 would send to rank 0
abbrev with_lanes : Lanes → Scene
with_lanes held = record { world = each (Started ∷ []) [] (Started ∷ Fired 0 ∷ Fired 1 ∷ []); held = held }

all_find_room : possible_steps system 1 (with_lanes nothing)
    ≡ Start 1 ∷ Fire 0 0 ∷ Fire 0 5 ∷ Fire 2 2 ∷ Fire 2 3 ∷ Fire 2 4 ∷ Fire 2 5 ∷ Fire 2 6 ∷ Fire 2 7 ∷ []
unfolding target request answered started fired append call_made cell_started bring
all_find_room = refl

-- one lies there: under a window of 1 neither finds room, and the request may come, since its answer finds room
sends_wait : possible_steps system 1 (with_lanes a_request)
    ≡ Start 1 ∷ Deliver 2 0 Request ∷ Fire 0 0 ∷ Fire 0 5 ∷ Fire 2 3 ∷ Fire 2 5 ∷ Fire 2 6 ∷ Fire 2 7 ∷ []
unfolding target request answered started fired append call_made cell_started bring
sends_wait = refl

-- its answer finds none: the request waits, and the answer comes
request_waits : possible_steps system 1 (with_lanes with_answer)
    ≡ Start 1 ∷ Deliver 0 2 Answer ∷ Fire 0 0 ∷ Fire 0 5 ∷ Fire 2 3 ∷ Fire 2 5 ∷ Fire 2 6 ∷ Fire 2 7 ∷ []
unfolding target request answered started fired append call_made cell_started bring
request_waits = refl

-- under a window of 2 nothing waits
two_find_room : possible_steps system 2 (with_lanes with_answer)
    ≡ Start 1 ∷ Deliver 0 2 Answer ∷ Deliver 2 0 Request ∷ Fire 0 0 ∷ Fire 0 5 ∷ Fire 2 2 ∷ Fire 2 3 ∷ Fire 2 4 ∷ Fire 2 5 ∷ Fire 2 6
    ∷ Fire 2 7 ∷ []
unfolding target request answered started fired append call_made cell_started bring
two_find_room = refl

-- ---- how many steps a rank makes: a start, its operations, what comes to it, and so many strays
steps_of_each : (steps_of three 0 0 ≡ 14) × (steps_of three 0 1 ≡ 4) × (steps_of three 0 2 ≡ 13) × (steps_of three 2 1 ≡ 6)
steps_of_each = (refl, refl, refl, refl)

left_at_first : steps_left three 0 (record { world = λ r. []; held = nothing }) ≡ 31
left_at_first = refl

left_of_one_stray : steps_left three 1 (record { world = whole; held = nothing }) ≡ 2
left_of_one_stray = refl

-- ---- names and places of steps
names : (named 2 Started ≡ Start 2) × (named 0 (Received 2 Answer (ack 8)) ≡ Deliver 2 0 Answer) × (named 2 (Fired 4) ≡ Fire 2 4)
names = (refl, refl, refl)

places : (lane_place 3 0 0 Request ≡ 0) × (lane_place 3 0 0 Answer ≡ 1) × (lane_place 3 0 2 Request ≡ 4) × (lane_place 3 2 1 Answer ≡ 15)
places = (refl, refl, refl, refl)

back : (source_at 3 15 ≡ 2) × (destination_at 3 15 ≡ 1) × (kind_at 15 ≡ Answer) × (kind_at 14 ≡ Request)
back = (refl, refl, refl, refl)
