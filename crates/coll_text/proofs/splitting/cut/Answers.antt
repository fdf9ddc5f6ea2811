use Rattle.std.proofs.Common.{◌<◌, ◌==◌, length, sym, ◌∙◌, arith}
use Rattle.std.proofs.lemmas.Grind.{common_steps}
use Rattle.std.proofs.lemmas.List.Quantifiers.{position-Some}
use Rattle.coll_text.proofs.Cutting.{cut_at, uncut}
use Rattle.coll_text.proofs.splitting.cut.Goals as goal

pub returns-in-Some : goal.returns-in-Some
returns-in-Some c =
    let found = sym c.find.ensures ∙ c.in-Some.is in
    let lt : c.in-Some.at < length c.args.bytes.now = (position-Some (λ b. b == c.args.separator) c.args.bytes.now c.in-Some.at 0 found).0
    in
    record {
      parts = grind (arith, common_steps, cut_at (λ b. b == c.args.separator) c.args.bytes.now c.in-Some.at found);
      shorter = grind (arith, common_steps);
    }

pub returns-in-None : goal.returns-in-None
returns-in-None c = record { parts = uncut (λ b. b == c.args.separator) c.args.bytes.now (sym c.find.ensures ∙ c.in-None.is); shorter = tt }
