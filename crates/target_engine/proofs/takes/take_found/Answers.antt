use Rattle.std.proofs.Common.{◌<◌, ◌++◌, length, refl, sym, ap, ◌∙◌, arith}
use Rattle.ni_model.specs.Headers.{found_in, left_in}
use Rattle.target_engine.specs.PortalTable.{seen_in, lies_in}
use Rattle.target_engine.proofs.Counted.{counted-same, counted-gone, long-taken}
use Rattle.target_engine.proofs.Headers.{unexpected-parts}
use Rattle.target_engine.proofs.Recorded.{recorded-unexpected}
use Rattle.target_engine.proofs.Records.{given-by, limit-by}
use Rattle.target_engine.proofs.Taking.{one-between, taken-told, taken-recorded, step-found, step-later, step-rose, step-same, step-gone}
use Rattle.target_engine.proofs.Taking.{step-kept}
use Rattle.target_engine.proofs.takes.take_found.Goals as goal
use Rattle.target_engine.proofs.takes.take_found.Goals.{then-finds, else-finds}

pub loop-at-init : goal.loop-at-init
loop-at-init c =
    let xs = c.args.headers.now.unexpected in
    record {
      sifted = record { front = refl; rest = refl; behind = omega arith; within = omega arith; long = refl };
      room = refl;
      events = refl;
      counts = refl;
      rose = refl;
      recorded = recorded-unexpected (seen_in c.args.indices.now) xs
          (left_in c.args.args.now.pt c.args.args.now.entry xs ++ found_in c.args.args.now.pt c.args.args.now.entry xs)
          c.args.records.now.by_entry
          c.requires.recorded (λ p. unexpected-parts (lies_in p) c.args.args.now.pt c.args.args.now.entry xs);
      users = counted-same xs (left_in c.args.args.now.pt c.args.args.now.entry xs ++ found_in c.args.args.now.pt c.args.args.now.entry
          xs) c.args.records.now
          c.requires.counted (λ p. unexpected-parts p c.args.args.now.pt c.args.args.now.entry xs);
      long = refl;
      given = refl;
      limit = refl;
    }

pub loop-at-preserved : goal.loop-at-preserved
loop-at-preserved c =
    let pt = c.args.args.now.pt in
    let e = c.args.args.now.entry in
    let xs = c.args.headers.now.unexpected in
    let ys = c.loop-at.headers.unexpected in
    let zs = c.as_slice.result.now in
    let k = c.loop-at.kept in
    let i = c.loop-at.at in
    let h = c.loop-at.invariant in
    let lt : i < length xs = omega (arith, ap length c.as_slice-waiting.ensures, c.loop-at-test.true) in
    elim c.if-finds.branch [
      | then-finds w ↦
          let step = step-found pt e xs ys zs k i _ _ c.finds.ensures c.as_slice.ensures h.sifted lt w.if-finds.true in
          let was = rw step at h.recorded in
          let told = rw step at h.events in
          let users = rw step at h.users in
          let gone = w.take_header.ensures.gone in
          record {
            sifted = rw (w.headers-is, w.kept-is) (step-gone pt e xs ys zs k i _ _ c.finds.ensures c.as_slice.ensures h.sifted lt
                w.if-finds.true);
            room = rw w.headers-is h.room;
            events = rw (w.eqs-is, w.take_header.ensures.events) (taken-told _ _ _ _ _ _ _ was ∙ told);
            counts = rw (w.cts-is, w.take_header.ensures.counts) (rw step at h.counts);
            rose = rw (w.counted-is, w.overflow_counter-counted.ensures)
                (sym (step-rose pt e xs ys zs k i _ _ c.finds.ensures c.as_slice.ensures h.sifted lt w.if-finds.true));
            recorded = rw (w.records-is, gone) (taken-recorded _ _ _ _ _ was);
            users = rw (w.records-is, gone) (counted-gone _ _ _ _ users was.once (one-between _ _ _));
            long = rw w.records-is (long-taken _ _ _ _ _ users gone ∙ h.long);
            given = rw (w.records-is, gone, given-by) h.given;
            limit = rw (w.records-is, gone, limit-by) h.limit;
          }
      | else-finds w ↦
          let step = step-later pt e xs ys zs k i _ _ c.finds.ensures c.as_slice.ensures h.sifted lt w.if-finds.false in
          record {
            sifted = rw (w.headers-is, w.kept-is, w.put_at.ensures)
                (step-kept pt e xs ys zs k i _ _ c.finds.ensures c.as_slice.ensures h.sifted lt w.if-finds.false);
            room = rw (w.headers-is, w.put_at.ensures) h.room;
            events = rw w.eqs-is (rw step at h.events);
            counts = rw w.cts-is (rw step at h.counts);
            rose = rw (w.counted-is, step-same pt e xs ys zs k i _ _ c.finds.ensures c.as_slice.ensures h.sifted lt w.if-finds.false)
                h.rose;
            recorded = rw w.records-is (rw step at h.recorded);
            users = rw w.records-is (rw step at h.users);
            long = rw w.records-is h.long;
            given = rw w.records-is h.given;
            limit = rw w.records-is h.limit;
          }
    ]
