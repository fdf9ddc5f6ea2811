-- Ranks that have ended each by itself make a cut at rest, and their lines are the result.
use Rattle.std.proofs.Common.{ℕ, zero, suc, ◌+◌, ◌<◌, ◌≡◌, ◌++◌, List, refl, sym, ap, ap₂, subst, arith, length, get_or}
use Rattle.std.proofs.Common.{take}
use Rattle.std.specs.List.{flat_map}
use Rattle.number_lists.specs.Numbers.{from_to}
use Rattle.ptl_types.specs.Messages.{Sent}
use Rattle.coll_lang.specs.Program.{Program}
use Rattle.coll_lang.specs.Readable.{IsReadable, ReadsExactly}
use Rattle.coll_lang.proofs.Coming.{comes}
use Rattle.coll_shape.specs.Meaning.{AreInputs, meaning_of}
use Rattle.coll_shape.specs.Outline.{Outline}
use Rattle.coll_shape.specs.WellFormed.{IsWellFormed}
use Rattle.given_verdicts.specs.declared.answer.FlawlessText.{FlawlessText}
use Rattle.given_verdicts.specs.declared.answer.Judged.{Judged}
use Rattle.verdict_laws.specs.GivenJobs.{given_lists, no_cells, results_of}
use Rattle.verdict_laws.specs.Verdicts.{front_of}
use Rattle.verdict_laws.proofs.Conditions.{fit as given-fit, sound_for as given-sound}
use Rattle.verdict_laws.proofs.Holding.{IsOfFlawless, IsTold, own_inputs, text_told}
use Rattle.verdict_laws.proofs.jobs.Holding.{are_held, list-held, within}
use Rattle.verdict_laws.proofs.jobs.Naming.{named-buffers}
use Rattle.plan_core.specs.Draw.{HeldCells}
use Rattle.schedule_compiler.specs.Keeping.{AreHeld}
use Rattle.plan_core.specs.Plan.{Plan}
use Rattle.plan_core.specs.Sound.{AreInputsOf, SoundPlan}
use Rattle.plan_core.specs.Values.{Inputs}
use Rattle.schedule_compiler.specs.shapes.Drawing.{plan_of}
use Rattle.schedule_compiler.proofs.shapes.Final.{fine-shape, inputs_fit}
use Rattle.cuts.specs.cells.Cells.{AreValues}
use Rattle.cuts.specs.ended.Ended.{HasEnded}
use Rattle.cuts.proofs.cells.Cells.{rest_values}
use Rattle.cuts.proofs.ended.Rest.{at_rest}
use Rattle.cuts.specs.histories.Cut.{IsAtRest, IsCut, IsPrefixOf}
use Rattle.cuts.specs.histories.Plans.{system_of}
use Rattle.cuts.specs.histories.System.{Histories, System, sent_by, state_at}
use Rattle.cuts.specs.view.Slots.{Slots}
use Rattle.job_laws.proofs.Cuts.{meant_at_rest, sound_for}
use Rattle.job_laws.specs.Results.{AreMeant}
use Rattle.run_text.specs.Lines.{buffer_lines, line_at, rest_line, result_text}
use Rattle.rank_process.specs.lines.Lines.{print_line}
use Rattle.rank_process.specs.lines.Rank.{IsDescribed, IsGiven, given_work, own_work}
use Rattle.rank_process.specs.laws.Ended.{AreCarried, HaveEnded, gathered, line_of, results_text}
use Rattle.rank_process.proofs.lines.Lists.{same-each}

same-from : (f g : ℕ → List ℕ) (k n : ℕ) → ((i : ℕ) → i < k + n → f i ≡ g i) → flat_map f (from_to k n) ≡ flat_map g (from_to k n)
same-from f g k zero same = refl
same-from f g k (suc n) same =
    ap₂ (λ (a b : List ℕ). a ++ b) (same k (omega arith)) (same-from f g (suc k) n (λ i h. same i (omega (arith, h))))

-- ---- of a plan

module _ (plan : Plan) (inputs : Inputs) (slots : ℕ → Slots) (world : Histories) (ended : HaveEnded plan inputs slots world)
    (carried : AreCarried plan inputs slots world) where
  abbrev ranks : System
  ranks = system_of plan inputs slots

  pub cut : IsCut ranks world
  cut = record {
    legal = λ r h. (ended.history r h).legal;
    known = λ r s lane h k. (ended.history r h).known s lane k;
    lanes = λ s r lane hs hr.
        subst (λ (ms : List Sent). IsPrefixOf ms (sent_by ranks world s r lane)) (sym ((ended.history r hr).own s lane))
        (carried s r lane hs hr);
  }

  -- what a rank sees of itself is so in the world
  alone : (r : ℕ) → r < plan.ranks → HasEnded plan inputs slots world r
  alone r h = let e = ended.ended r h in record { started = e.started; idle = e.idle; all = e.all }

  pub rest : SoundPlan plan (length inputs) → AreInputsOf plan inputs → IsAtRest ranks world
  rest sound fit = at_rest plan inputs slots world sound fit cut alone

  pub values : SoundPlan plan (length inputs) → AreInputsOf plan inputs → AreValues plan inputs (λ r. (state_at ranks world r).memory)
  values sound fit = rest_values plan inputs sound fit slots world cut (rest sound fit)

-- ---- of a description

module _ (text : List ℕ) (d : Program) (slots : ℕ → Slots) (world : Histories) (described : IsDescribed text d)
    (ended : HaveEnded (plan_of d.shape) d.inputs slots world) (carried : AreCarried (plan_of d.shape) d.inputs slots world) where
  abbrev plan : Plan
  plan = plan_of d.shape

  ok : IsReadable d
  ok = (comes text d described.read).readable

  many : plan.ranks ≡ d.shape.ranks
  many = (fine-shape d.shape ok.formed).ranks

  all-cut : IsCut (system_of plan d.inputs slots) world
  all-cut = cut plan d.inputs slots world ended carried

  at-rest : IsAtRest (system_of plan d.inputs slots) world
  at-rest = rest plan d.inputs slots world ended carried (sound_for d.shape d.inputs ok.formed described.accepted ok.given)
      (inputs_fit d.shape d.inputs ok.formed ok.given)

  pub meant : AreMeant d.shape d.inputs (λ r. (state_at (system_of plan d.inputs slots) world r).memory)
  meant = meant_at_rest d.shape d.inputs slots world ok.formed described.accepted ok.given all-cut at-rest

  line-is : (b r : ℕ) → b < length d.shape.buffers → r < d.shape.ranks →
      line_of (own_work d) slots world b r ≡ line_at d.shape (meaning_of d.shape d.inputs) b r
  line-is b r hb hr = ap (print_line d.shape r b) (meant b r hb hr)

  rows-are : (b n : ℕ) → b < length d.shape.buffers → n ≡ d.shape.ranks →
      flat_map (line_of (own_work d) slots world b) (from_to 0 n) ≡ buffer_lines d.shape (meaning_of d.shape d.inputs) b
  rows-are b n hb same =
      subst (λ k. flat_map (line_of (own_work d) slots world b) (from_to 0 k) ≡ buffer_lines d.shape (meaning_of d.shape d.inputs) b)
      (sym same)
      (same-from (line_of (own_work d) slots world b) (line_at d.shape (meaning_of d.shape d.inputs) b) 0 d.shape.ranks
      (λ r hr. line-is b r hb (omega (arith, hr))))

  pub lines : gathered (own_work d) slots world ++ rest_line ≡ result_text d.shape d.inputs
  lines = ap (λ (l : List ℕ). l ++ rest_line)
      (same-each (λ b. flat_map (line_of (own_work d) slots world b) (from_to 0 plan.ranks))
      (buffer_lines d.shape (meaning_of d.shape d.inputs))
      d.shape.prints (λ i h. rows-are (get_or d.shape.prints i 0) plan.ranks (ok.formed.shape.printed i h) many))

-- ---- of a plan that is given

module _ (exactly : ReadsExactly) (text : List ℕ) (t : FlawlessText) (slots : ℕ → Slots) (world : Histories) (given : IsGiven text t)
    (ended : HaveEnded t.given.plan t.description.inputs slots world)
    (carried : AreCarried t.given.plan t.description.inputs slots world) where
  abbrev p : Plan
  p = t.given.plan

  abbrev o : Outline
  o = t.description.shape

  abbrev inputs : Inputs
  inputs = t.description.inputs

  abbrev held : HeldCells
  held = results_of o t.given.marks

  so : IsOfFlawless text t.description t.given
  so = subst (λ (j : Judged). IsTold text j) given.judged (text_told text)

  own : AreInputs o inputs
  own = own_inputs exactly text t.description t.given so.text

  formed : IsWellFormed o
  formed = ((exactly (take (front_of text) text) t.description).0 so.text.description).0.formed

  held-is : AreHeld p held
  held-is = are_held p o t.given.done t.given.marks so.flawless (within p o t.given.done t.given.marks so.flawless formed)

  known : SoundPlan p (length inputs)
  known = given-sound p o t.given.done t.given.marks so.flawless inputs own

  fit : AreInputsOf p inputs
  fit = given-fit p o t.given.done t.given.marks so.flawless inputs own

  line-is-held : (b r : ℕ) → b < length o.buffers → r < p.ranks →
      line_of (given_work t) slots world b r ≡ line_at o (given_lists p held inputs) b r
  line-is-held b r hb hr =
      ap (print_line o r b) (list-held p held inputs b r (state_at (system_of p inputs slots) world r).memory held-is
      (subst (λ n. b < n) (sym (named-buffers (no_cells o) t.given.marks)) hb) hr
      (values p inputs slots world ended carried known fit r hr))

  rows-held : (b n : ℕ) → b < length o.buffers → n ≡ p.ranks →
      flat_map (line_of (given_work t) slots world b) (from_to 0 p.ranks) ≡ flat_map (line_at o (given_lists p held inputs) b) (from_to 0 n)
  rows-held b n hb same =
      subst (λ k. flat_map (line_of (given_work t) slots world b) (from_to 0 p.ranks)
      ≡ flat_map (line_at o (given_lists p held inputs) b) (from_to 0 k)) (sym same)
      (same-from (line_of (given_work t) slots world b) (line_at o (given_lists p held inputs) b) 0 p.ranks
      (λ r hr. line-is-held b r hb (omega (arith, hr))))

  pub given-lines : gathered (given_work t) slots world ++ rest_line ≡ results_text (given_work t)
  given-lines = ap (λ (l : List ℕ). l ++ rest_line)
      (same-each (λ b. flat_map (line_of (given_work t) slots world b) (from_to 0 p.ranks)) (buffer_lines o (given_lists p held inputs))
      o.prints (λ i h. rows-held (get_or o.prints i 0) o.ranks (formed.shape.printed i h) (sym so.flawless.ranks)))
