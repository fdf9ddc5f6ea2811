-- What the sources and sinks in memory hold, and what their calls do.
use Rattle.std.specs.Prelude.{ℕ, ◌+◌, ◌-◌, ◌^◌, List, ◌++◌, length, take, drop, Option, Some, None, Result, Ok, Err, ◌==◌, nat_le}
use Rattle.std.specs.Prelude.{if◌then◌else◌, min, option_and_then}
use Rattle.port_io.specs.declared.turns.IoTurn.{IoTurn}
use Rattle.port_io.specs.declared.ends.Failed.{Failed}
use Rattle.ptl_types.specs.Handles.{one_more}
use Rattle.port_io.specs.Ends.{Inflow, Outflow}
use Rattle.port_io.specs.Turns.{passing}

-- a source in memory: the bytes left, the turns left, and its faults
pub record Feed : Type 0 where
  pub left : List ℕ
  pub turns : List IoTurn
  pub faults : ℕ

abbrev pub inflow_of : Feed → Inflow
inflow_of feed = record { left = Some feed.left; faults = feed.faults }

-- a read that may take so many bytes, or fails
abbrev pub feed_after : Feed → Option ℕ → Feed
feed_after feed None = record feed { turns = drop 1 feed.turns; faults = one_more feed.faults }
feed_after feed (Some n) = record feed { left = drop n feed.left; turns = drop 1 feed.turns }

abbrev pub count_or_failed : Option ℕ → Result ℕ Failed
count_or_failed None = Err (record {})
count_or_failed (Some n) = Ok n

-- a sink in memory: what it took, its room, the turns left, its faults and finishes
pub record Tray : Type 0 where
  pub taken : List ℕ
  pub room : ℕ
  pub turns : List IoTurn
  pub faults : ℕ
  pub finishes : ℕ

abbrev pub outflow_of : Tray → Outflow
outflow_of tray = record { taken = Some tray.taken; faults = tray.faults; finishes = tray.finishes }

-- Of a piece of so many bytes, how many a write takes. None: it fails, since its turn says so or the room is too small.
abbrev pub accepted : Tray → ℕ → Option ℕ
accepted tray bytes = option_and_then (λ n. if nat_le (length tray.taken + n) tray.room then Some n else None) (passing tray.turns bytes)

abbrev pub tray_after : Tray → List ℕ → Option ℕ → Tray
tray_after tray piece None = record tray { turns = drop 1 tray.turns; faults = one_more tray.faults }
tray_after tray piece (Some n) = record tray { taken = tray.taken ++ take n piece; turns = drop 1 tray.turns }

-- a finish, which fails where its turn says so
abbrev pub finished_tray : Tray → Option ℕ → Tray
finished_tray tray None = record tray { turns = drop 1 tray.turns; faults = one_more tray.faults }
finished_tray tray (Some n) = record tray { turns = drop 1 tray.turns; finishes = one_more tray.finishes }

-- a sink that keeps its first `room` bytes: what it kept, how many more it took, and its finishes
pub record Jar : Type 0 where
  pub kept : List ℕ
  pub room : ℕ
  pub more : ℕ
  pub finishes : ℕ

-- the first `room` of all bytes are kept, and the others counted
abbrev pub jar_after : Jar → List ℕ → Jar
jar_after jar piece = record jar {
  kept = take jar.room (jar.kept ++ piece);
  more = min (jar.more + (length piece - (jar.room - length jar.kept))) (2 ^ 64 - 1);
}

-- it tells what it took as long as that fits
abbrev pub taken_in : Jar → Option (List ℕ)
taken_in jar = if jar.more == 0 then Some jar.kept else None

abbrev pub outflow_of_jar : Jar → Outflow
outflow_of_jar jar = record { taken = taken_in jar; faults = 0; finishes = jar.finishes }
