-- Refusals of JSON, with the line that is written for them.
use Rattle.std.proofs.Common.{◌≡◌, ℕ, Some, Result, Err, ap, ◌∙◌}
use Rattle.coll_lang.specs.declared.fault.Refusal.{Refusal}
use Rattle.coll_lang.specs.Program.{Program}
use Rattle.json_lang.specs.Answers.{Fails, refusal_of}
use Rattle.json_lang.specs.declared.fault.JsonRefusal.{JsonRefusal}
use Rattle.json_lang.specs.declared.fault.JsonRefusal.TheVariants.{BadJson, BadForm, Refused, NoMemory}
use Rattle.portals_top.specs.Formats.{json_refusal, with_line}

refusal-is : (fault : JsonRefusal) (line : ℕ) (name : Refusal) → refusal_of fault ≡ Some (line, name) → json_refusal fault ≡ (line, name)
refusal-is BadJson line name is = let e : (0, _) ≡ (line, name) = cc in e
refusal-is BadForm line name is = let e : (0, _) ≡ (line, name) = cc in e
refusal-is (Refused l n) line name is = let e : (l, n) ≡ (line, name) = cc in e
refusal-is NoMemory line name is = absurd (cc)

fails-read : (fault : JsonRefusal) (read : Result Program JsonRefusal) (line : ℕ) (name : Refusal) → Fails fault read →
    refusal_of fault ≡ Some (line, name) → read ≡ Err fault
fails-read BadJson read line name fails is = fails
fails-read BadForm read line name fails is = fails
fails-read (Refused l n) read line name fails is = fails
fails-read NoMemory read line name fails is = absurd (cc)

pub refused-fails : (fault : JsonRefusal) (read : Result Program JsonRefusal) (line : ℕ) (name : Refusal) → Fails fault read →
    refusal_of fault ≡ Some (line, name)
    → with_line read ≡ Err (line, name)
refused-fails fault read line name fails is =
    ap with_line (fails-read fault read line name fails is) ∙ ap (λ (e : ℕ × Refusal). Err e) (refusal-is fault line name is)
