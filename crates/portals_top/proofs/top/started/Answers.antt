use Rattle.std.proofs.Common.{sym, ◌∙◌, refl}
use Rattle.portals_top.specs.Explained.{IsPlaced}
use Rattle.portals_top.proofs.Answering.{answered-usage}
use Rattle.portals_top.proofs.Beginning.{summed-no_memory}
use Rattle.run_text.proofs.Told.{told-any}
use Rattle.portals_top.proofs.Telling.{begun_placed, usage_tells}
use Rattle.portals_top.proofs.top.started.Goals as goal

pub returns-in-Some-Do : goal.returns-in-Some-Do
returns-in-Some-Do g c =
    let other = sym c.request_in.ensures.value ∙ c.in-Some-Do.is in
    let any = told-any (g.S.Source.inflow c.args.source.now).left in
    record {
      begun = rw (other, c.in-Some-Do.field-0-is) c.read_and_answer.ensures.begun;
      told = (any.0, any.1, begun_placed any.0 c.read_and_answer.result _ _ _ c.read_and_answer.ensures.told);
    }

pub returns-in-Ok : goal.returns-in-Ok
returns-in-Ok g c =
    let other = sym c.request_in.ensures.value ∙ c.in-Some-Large.is in
    let any = told-any (g.S.Source.inflow c.args.source.now).left in
    record {
      begun = (
        any.0,
        any.1,
        (
          record {
            asked = rw (other, c.in-Some-Large.field-0-is) refl;
            possible = rw (c.in-Some-Large.is, c.in-Some-Large.field-0-is) at c.request_in.ensures.possible;
            shape = c.in-Ok.ensures.shape;
            inputs = c.in-Ok.ensures.inputs;
            untouched = refl;
          },
          refl,
          refl,
        ),
      );
      told = (any.0, any.1, tt);
    }

pub returns-in-Err : goal.returns-in-Err
returns-in-Err g c =
    let other = sym c.request_in.ensures.value ∙ c.in-Some-Large.is in
    let any = told-any (g.S.Source.inflow c.args.source.now).left in
    record { begun = (any.0, any.1, rw (other, c.in-Some-Large.field-0-is) (summed-no_memory _ _ _ _)); told = (any.0, any.1, tt) }

pub returns-in-Some-Check : goal.returns-in-Some-Check
returns-in-Some-Check g c =
    let other = sym c.request_in.ensures.value ∙ c.in-Some-Check.is in
    record { begun = rw (other, c.in-Some-Check.field-0-is) c.read_and_check.ensures.checked; told = c.read_and_check.ensures.told }

pub returns-in-None : goal.returns-in-None
returns-in-None g c =
    let other = sym c.request_in.ensures.value ∙ c.in-None.is in
    let any = told-any (g.S.Source.inflow c.args.source.now).left in
    record {
      begun = rw other (answered-usage _ _ _ _ c.usage.ensures);
      told = (any.0, any.1, usage_tells (IsPlaced any.0) _ _ _ _ c.usage.ensures);
    }
