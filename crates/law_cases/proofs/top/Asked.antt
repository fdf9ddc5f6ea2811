-- What the words of the command line ask for.
use Rattle.std.specs.Prelude.{ℕ, ◌≡◌, List, [], ◌∷◌, Option, Some, None, codes, refl}
use Rattle.coll_lang.specs.declared.fault.Refusal.TheVariants as names
use Rattle.json_lang.specs.declared.fault.JsonRefusal.TheVariants.{BadForm, BadJson, Refused}
use Rattle.portals_top.specs.declared.words.Command.{Command}
use Rattle.portals_top.specs.declared.words.Command.TheVariants.{Execute, Plan}
use Rattle.portals_top.specs.declared.words.Format.TheVariants.{Json, Text}
use Rattle.job_runs.specs.declared.modes.Mode.TheVariants.{Once, Run, Sim, Steady, Trace}
use Rattle.portals_top.specs.declared.words.Request.{Request}
use Rattle.portals_top.specs.declared.words.Request.TheVariants.{Check, Do, Large}
use Rattle.portals_top.specs.Formats.{json_refusal}
use Rattle.portals_top.specs.Words.{request}

abbrev one : List ℕ → Option Request
one word = request (word ∷ [])

abbrev two : List ℕ → List ℕ → Option Request
two word number = request (word ∷ number ∷ [])

abbrev large : List ℕ → List ℕ → Option Request
large number workers = request (codes "large" ∷ number ∷ workers ∷ [])

-- this is done with a text of the description language
abbrev text_for : Command → Option Request
text_for command = Some (Do (record { format = Text; command = command }))

alone : (one (codes "once") ≡ text_for (Execute Once))
    × (one (codes "plan") ≡ text_for Plan) × (one (codes "check") ≡ Some Check)
alone = (refl, refl, refl)

not_alone : (one (codes "sim") ≡ None) × (one (codes "run") ≡ None) × (one (codes "Once") ≡ None) × (one [] ≡ None) × (request [] ≡ None)
    × (two (codes "once") (codes "1") ≡ None) × (two (codes "check") (codes "1") ≡ None)
not_alone = (refl, refl, refl, refl, refl, refl, refl)

seeds : (two (codes "sim") (codes "0") ≡ text_for (Execute (Sim 0)))
    × (two (codes "sim") (codes "18446744073709551615") ≡ text_for (Execute (Sim 18446744073709551615)))
    × (two (codes "sim") (codes "18446744073709551616") ≡ None) × (two (codes "sim") (codes "07") ≡ None)
seeds = (refl, refl, refl, refl)

workers : (two (codes "run") (codes "1") ≡ text_for (Execute (Run 1)))
    × (two (codes "run") (codes "16") ≡ text_for (Execute (Run 16)))
    × (two (codes "run") (codes "0") ≡ None) × (two (codes "run") (codes "17") ≡ None)
workers = (refl, refl, refl, refl)

others : (two (codes "trace") (codes "4") ≡ text_for (Execute (Trace 4)))
    × (two (codes "steady") (codes "4") ≡ text_for (Execute (Steady 4)))
    × (two (codes "json") (codes "4") ≡ Some (Do (record { format = Json; command = Execute (Run 4) })))
others = (refl, refl, refl)

numbers : (large (codes "65535") (codes "16") ≡ Some (Large 65535 16)) × (large (codes "65536") (codes "1") ≡ None)
    × (large (codes "0") (codes "1") ≡ Some (Large 0 1)) × (large (codes "0") (codes "0") ≡ None) × (large (codes "1") (codes "17") ≡ None)
    × (request (codes "large" ∷ codes "1" ∷ codes "1" ∷ codes "1" ∷ []) ≡ None) × (two (codes "large") (codes "1") ≡ None)
numbers = (refl, refl, refl, refl, refl, refl, refl)

-- ---- the line and the name of a refusal of JSON
of_json : (json_refusal BadJson ≡ (0, names.BadJson)) × (json_refusal BadForm ≡ (0, names.BadForm))
    × (json_refusal (Refused 7 names.BadRoot) ≡ (7, names.BadRoot))
of_json = (refl, refl, refl)
