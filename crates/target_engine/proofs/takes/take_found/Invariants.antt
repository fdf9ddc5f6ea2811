use Rattle.std.proofs.Common.{◌≡◌, [], ◌++◌, not, length, take, drop}
use Rattle.std.proofs.lemmas.List.Filters.{FiltersInPlace}
use Rattle.ni_model.specs.declared.IndexedHeader.{IndexedHeader}
use Rattle.ni_model.specs.Headers.{unexpected_list, finds, found_in, left_in}
use Rattle.ni_model.specs.Append.{overflow_counter, each_counted, each_gone, counted_by}
use Rattle.target_engine.specs.PortalTable.{seen_in, AreRecorded, AreCounted}
use Rattle.target_engine.specs.Sides.{side}
use Rattle.target_engine.proofs.takes.take_found.Given as goal

abbrev pub invariant-loop-at : goal.invariant-loop-at
invariant-loop-at l =
    let xs = l.fn.headers.unexpected in
    record {
      sifted : FiltersInPlace (λ (a : IndexedHeader). not (finds l.args.pt l.args.entry a)) xs l.headers.unexpected l.kept l.at;
      room : l.headers.limit ≡ l.fn.headers.limit;
      events :
          each_gone l.args.entry.hidden (side 0 0 (seen_in l.indices) 0 (unexpected_list [] 0)) (left_in l.args.pt l.args.entry xs)
          (found_in l.args.pt l.args.entry (drop l.at xs)) l.eqs
          ≡ each_gone l.args.entry.hidden (side 0 0 (seen_in l.indices) 0 (unexpected_list [] 0)) (left_in l.args.pt l.args.entry xs)
          (found_in l.args.pt l.args.entry xs) l.fn.eqs;
      counts :
          each_counted (overflow_counter l.args.entry) (found_in l.args.pt l.args.entry (drop l.at xs)) l.cts
          ≡ each_counted (overflow_counter l.args.entry) (found_in l.args.pt l.args.entry xs) l.fn.cts;
      rose : l.counted ≡ counted_by l.args.entry (found_in l.args.pt l.args.entry (take l.at xs));
      recorded : AreRecorded (seen_in l.indices) (left_in l.args.pt l.args.entry xs ++ found_in l.args.pt l.args.entry (drop l.at xs))
          l.records.by_entry;
      users : AreCounted (left_in l.args.pt l.args.entry xs ++ found_in l.args.pt l.args.entry (drop l.at xs)) l.records;
      long : length l.records.waiting ≡ length l.fn.records.waiting;
      given : l.records.by_entry.given ≡ l.fn.records.by_entry.given;
      limit : l.records.by_entry.limit ≡ l.fn.records.by_entry.limit;
    }
