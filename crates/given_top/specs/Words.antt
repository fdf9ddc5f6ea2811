-- What the words of the command line ask for.
use Rattle.std.specs.Prelude.{ℕ, Bool, true, false, ◌&&◌, List, [], ◌∷◌, ◌≤◌, Option, Some, None, codes, if◌then◌else◌, option_map}
use Rattle.std.specs.Str.{bytes_eq}
use Rattle.coll_text.specs.Text.{number_between}
use Rattle.job_runs.specs.declared.modes.Mode.{Mode}
use Rattle.job_runs.specs.Modes.{HasWorkers, mode_of}
use Rattle.plan_costs.specs.declared.numbers.LogGp.{LogGp}
use Rattle.plan_costs.specs.Times.{numbers_of}
use Rattle.plan_top.specs.declared.words.PlanRequest.{PlanRequest}
use Rattle.plan_top.specs.declared.words.PlanRequest.TheVariants.{Draw, Verify, VerifyGiven}
use Rattle.given_top.specs.declared.words.Form.{Form}
use Rattle.given_top.specs.declared.words.Form.TheVariants.{Judge, Use, Check, Cost}
use Rattle.given_top.specs.declared.words.Purpose.{Purpose}
use Rattle.given_top.specs.declared.words.Purpose.TheVariants.{Run, Tell}
use Rattle.given_top.specs.declared.words.Telling.{Telling}
use Rattle.given_top.specs.declared.words.Telling.TheVariants.{Limits, Explain, ExplainRank, Graph}

-- `draw`, `verify`, `verify given`
abbrev pub plan_request : List (List ℕ) → Option PlanRequest
plan_request (verb ∷ []) =
    if bytes_eq verb (codes "draw") then Some Draw
    else if bytes_eq verb (codes "verify") then Some Verify
    else None
plan_request (verb ∷ what ∷ []) = if bytes_eq verb (codes "verify") && bytes_eq what (codes "given") then Some VerifyGiven else None
plan_request _ = None

-- a rank, in its one spelling
abbrev pub ranked : List ℕ → Option Telling
ranked word = option_map (λ r. ExplainRank r) (number_between 0 255 word)

-- `limits`, `explain`, `explain --dot`, `explain RANK`
abbrev pub telling_of : List (List ℕ) → Option Telling
telling_of (verb ∷ []) =
    if bytes_eq verb (codes "limits") then Some Limits
    else if bytes_eq verb (codes "explain") then Some Explain
    else None
telling_of (verb ∷ what ∷ []) =
    if bytes_eq verb (codes "explain") && bytes_eq what (codes "--dot") then Some Graph
    else if bytes_eq verb (codes "explain") then ranked what
    else None
telling_of _ = None

-- `check`
abbrev pub is_check : List (List ℕ) → Bool
is_check (verb ∷ []) = bytes_eq verb (codes "check")
is_check _ = false

-- numbers of LogGP: L, o, g, G and O, each below 2^32, o at least 1
abbrev pub given_numbers : Option ℕ → Option ℕ → Option ℕ → Option ℕ → Option ℕ → Option LogGp
given_numbers (Some l) (Some o) (Some g) (Some b) (Some w) = Some (numbers_of l o g b w)
given_numbers _ _ _ _ _ = None

abbrev pub any_number : List ℕ → Option ℕ
any_number word = number_between 0 4294967295 word

abbrev pub log_gp : List ℕ → List ℕ → List ℕ → List ℕ → Option ℕ → Option LogGp
log_gp l o g b w = given_numbers (any_number l) (number_between 1 4294967295 o) (any_number g) (any_number b) w

-- `cost L o g G`, where O is 0, and `cost L o g G O`
abbrev pub cost_of : List (List ℕ) → Option LogGp
cost_of (verb ∷ l ∷ o ∷ g ∷ b ∷ []) = if bytes_eq verb (codes "cost") then log_gp l o g b (Some 0) else None
cost_of (verb ∷ l ∷ o ∷ g ∷ b ∷ w ∷ []) = if bytes_eq verb (codes "cost") then log_gp l o g b (any_number w) else None
cost_of _ = None

-- what is drawn or judged, told, checked, costed, or run
abbrev pub run_form : Option Mode → Option Form
run_form mode = option_map (λ m. Use (Run m)) mode

abbrev pub cost_form : Option LogGp → Option Mode → Option Form
cost_form (Some numbers) mode = Some (Cost numbers)
cost_form None mode = run_form mode

abbrev pub check_form : Bool → Option LogGp → Option Mode → Option Form
check_form true cost mode = Some Check
check_form false cost mode = cost_form cost mode

abbrev pub tell_form : Option Telling → Bool → Option LogGp → Option Mode → Option Form
tell_form (Some telling) check cost mode = Some (Use (Tell telling))
tell_form None check cost mode = check_form check cost mode

abbrev pub either_form : Option PlanRequest → Option Telling → Bool → Option LogGp → Option Mode → Option Form
either_form (Some request) telling check cost mode = Some (Judge request)
either_form None telling check cost mode = tell_form telling check cost mode

abbrev pub form_of : List (List ℕ) → Option Form
form_of words = either_form (plan_request words) (telling_of words) (is_check words) (cost_of words) (mode_of words)

-- there is a worker
abbrev pub CanDo : Purpose → Type 0
CanDo (Run mode) = HasWorkers mode
CanDo (Tell telling) = Unit {0}

abbrev pub CanServe : Form → Type 0
CanServe (Judge request) = Unit {0}
CanServe (Use purpose) = CanDo purpose
CanServe Check = Unit {0}
CanServe (Cost numbers) = 1 ≤ numbers.overhead
