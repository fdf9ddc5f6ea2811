-- What was read before stands in front of what comes.
use Rattle.std.proofs.Common.{◌≡◌, ◌+◌, ◌-◌, ◌≤◌, ◌∙◌, ℕ, List, ◌++◌, length, take, drop, ap, subst, sym, arith}
use Rattle.std.proofs.Common.{inl, length-append, length-drop}
use Rattle.std.proofs.Math.Seq.{take-append-add}
use Rattle.std.proofs.lemmas.List.{length-take-le, take-append-le}
use Rattle.port_io.specs.Ends.{GivesFront}
use Rattle.run_text.proofs.Taking.{Rose-later}
use Rattle.rank_frames.proofs.By.{front-then}
use Rattle.rank_frames.proofs.frames.read_whole.Goals as goal
use borrow.Rule.Slice.PartMut.{put_mid, post_of}

part-length : (a : ℕ) (xs ys : List ℕ) → a ≤ length xs → length ys ≡ length xs - a
    → length (put_mid a (length xs - a) xs ys) ≡ length xs
part-length a xs ys within same =
    let k = length xs - a in
    let behind = post_of a k xs in
    let whole : length (put_mid a k xs ys) ≡ length (take a xs) + (length ys + length behind) =
    length-append (take a xs) (ys ++ behind) ∙ ap (λ n. length (take a xs) + n) (length-append ys behind) in
    let front = length-take-le a xs within in
    let one = length-drop a xs in
    let two : length behind ≡ length (drop a xs) - k = length-drop k (drop a xs) in
    omega arith

part-front : (a k n : ℕ) (xs ys : List ℕ) → a ≤ length xs → n ≤ length ys → take (a + n) (put_mid a k xs ys) ≡ take a xs ++ take n ys
part-front a k n xs ys within fits =
    let behind = post_of a k xs in
    subst (λ m. take (m + n) (put_mid a k xs ys) ≡ take a xs ++ take n ys) (length-take-le a xs within)
    (take-append-add (take a xs) (ys ++ behind) n ∙ ap (λ (l : List ℕ). take a xs ++ l) (take-append-le n ys behind fits))

pub loop-at-preserved : goal.loop-at-preserved
loop-at-preserved g c =
    let xs = c.loop-at.into in
    let a = c.loop-at.at in
    let within = c.loop-at.invariant.within in
    let most = c.loop-at.invariant.most in
    let rest = length-drop a xs in
    let part = length-take-le (length xs - a) (drop a xs) (omega arith) in
    let same : length c.read.new.into ≡ length xs - a = c.read.auto.into ∙ part in
    let long = part-length a xs c.read.new.into within same in
    let fits = c.in-Ok.ensures.within in
    let small : c.in-Ok.count ≤ length c.read.new.into = omega arith in
    let front = front-then (g.S.Source.inflow c.args.source.now).left (g.S.Source.inflow c.loop-at.source).left
    (g.S.Source.inflow c.read.new.self).left (take a xs) (take c.in-Ok.count c.read.new.into) c.loop-at.invariant.front
    c.in-Ok.ensures.front in
    record {
      within = omega arith;
      most = long ∙ most;
      front = subst (λ (l : List ℕ). GivesFront (g.S.Source.inflow c.args.source.now).left (g.S.Source.inflow c.read.new.self).left l)
          (sym (part-front a (length xs - a) c.in-Ok.count xs c.read.new.into within small)) front;
      faults = let before = c.loop-at.invariant.faults in let after = c.in-Ok.ensures.faults in omega (arith, before, after);
      bytes = λ i. let small = c.type_inv.into i in omega arith;
    }

pub returns-in-Ok-eq0-clause-faults : goal.returns-in-Ok-eq0-clause-faults
returns-in-Ok-eq0-clause-faults g c =
    let before = c.loop-at.invariant.faults in
    let after = c.in-Ok-eq0.ensures.faults in
    omega (arith, before, after)

pub returns-in-Err-clause-stops : goal.returns-in-Err-clause-stops
returns-in-Err-clause-stops g c =
    inl (Rose-later (g.S.Source.inflow c.args.source.now).faults (g.S.Source.inflow c.loop-at.source).faults
    (g.S.Source.inflow c.read.new.self).faults c.loop-at.invariant.faults c.in-Err.ensures.failed)

pub returns-in-Err-clause-faults : goal.returns-in-Err-clause-faults
returns-in-Err-clause-faults g c =
    let before = c.loop-at.invariant.faults in
    let after = c.in-Err.ensures.faults in
    omega (arith, before, after)

pub returns-clause-faults : goal.returns-clause-faults
returns-clause-faults g c = c.loop-at.invariant.faults
