use Rattle.std.proofs.Common.{refl}
use Rattle.coll_lang.specs.Language.{read}
use Rattle.given_verdicts.specs.Answers.{answer_of}
use Rattle.plan_top.specs.declared.words.PlanRequest.TheVariants.{Draw, VerifyGiven}
use Rattle.plan_top.specs.Owed.{owed_drawn, owed_given}
use Rattle.plan_top.proofs.Answering.{written_answers}
use Rattle.plan_top.proofs.top.answer_text.Goals as goal

pub returns-in-Draw : goal.returns-in-Draw
returns-in-Draw g c =
    let text = c.args.text.now in
    record {
      answers = rw c.in-Draw.is (written_answers Draw text (owed_drawn (read text)) refl _ _ _ c.draw_text.ensures.written);
      no_read = c.draw_text.ensures.written.no_read;
      told = rw c.in-Draw.is c.draw_text.ensures.told;
    }

pub returns-in-VerifyGiven : goal.returns-in-VerifyGiven
returns-in-VerifyGiven g c =
    let text = c.args.text.now in
    record {
      answers = rw c.in-VerifyGiven.is (written_answers VerifyGiven text (owed_given (answer_of text)) refl _ _ _
          c.judge_given.ensures.written);
      no_read = c.judge_given.ensures.written.no_read;
      told = rw c.in-VerifyGiven.is c.judge_given.ensures.told;
    }

pub returns-in-Verify : goal.returns-in-Verify
returns-in-Verify g c = record {
  answers = rw c.in-Verify.is c.judge_for_all.ensures.answers;
  no_read = c.judge_for_all.ensures.no_read;
  told = rw c.in-Verify.is c.judge_for_all.ensures.told;
}
