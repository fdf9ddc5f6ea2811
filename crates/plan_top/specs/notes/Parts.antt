-- Messages in parts: words, and what a cell, a link or a line of a plan has.
use Rattle.std.specs.Prelude.{ℕ, ◌+◌, ◌-◌, ◌^◌, ◌==◌, min, List, [], ◌∷◌, Option, Some, None, length, slice_get, if◌then◌else◌}
use Rattle.std.specs.List.{fold}
use Rattle.std.specs.Fmt.{decimal}
use Rattle.ptl_types.specs.Operations.{bytes_of}
use Rattle.coll_lang.specs.Words.{type_word}
use Rattle.coll_shape.specs.Outline.{Outline, buffer_at, list_bytes}
use Rattle.plan_core.specs.Plan.{Plan, cell, in_links, link}
use Rattle.plan_core.specs.Sound.{put_bytes}
use Rattle.run_text.specs.Plans.{kind_word, op_or_none}
use Rattle.text_notes.specs.notes.Shown.{then_shown}
use Rattle.plan_top.specs.declared.notes.parts.OfCell.{OfCell}
use Rattle.plan_top.specs.declared.notes.parts.OfCell.TheVariants as of_cell
use Rattle.plan_top.specs.declared.notes.parts.OfLink.{OfLink}
use Rattle.plan_top.specs.declared.notes.parts.OfLink.TheVariants as of_link
use Rattle.plan_top.specs.declared.notes.parts.OfList.{OfList}
use Rattle.plan_top.specs.declared.notes.parts.OfList.TheVariants as of_list
use Rattle.plan_top.specs.declared.notes.parts.Part.{Part}
use Rattle.plan_top.specs.declared.notes.parts.Part.TheVariants as parts
use Rattle.plan_top.specs.declared.notes.parts.Filling.{Filling}
use Rattle.plan_top.specs.declared.notes.parts.Subject.{Subject}

-- of cell c; puts that have 2^64 bytes or more count as the number below
abbrev pub cell_bytes : Plan → ℕ → OfCell → List ℕ
cell_bytes p c of_cell.Number = decimal c
cell_bytes p c of_cell.Rank = decimal (cell p c).rank
cell_bytes p c of_cell.Length = decimal (cell p c).length
cell_bytes p c of_cell.Needs = decimal (cell p c).needs
cell_bytes p c of_cell.Links = decimal (length (in_links p c))
cell_bytes p c of_cell.Puts = decimal (min (put_bytes p c) (2 ^ 64 - 1))
cell_bytes p c of_cell.Type = type_word (cell p c).ty
cell_bytes p c of_cell.Element = decimal (bytes_of (cell p c).ty)
cell_bytes p c of_cell.Operation = op_or_none (cell p c).op

-- of link l
abbrev pub link_bytes : Plan → ℕ → OfLink → List ℕ
link_bytes p l of_link.Number = decimal l
link_bytes p l of_link.Length = decimal (link p l).length
link_bytes p l of_link.From = decimal (link p l).source_offset
link_bytes p l of_link.To = decimal (link p l).target_offset
link_bytes p l of_link.Kind = kind_word (link p l).kind

-- of a list of buffer b
abbrev pub list_part : Outline → ℕ → OfList → List ℕ
list_part o b of_list.Name = (buffer_at o b).name
list_part o b of_list.Length = decimal (list_bytes (buffer_at o b))
list_part o b of_list.Type = type_word (buffer_at o b).ty

abbrev pub part_bytes : Plan → Outline → Subject → Part → List ℕ
part_bytes p o s parts.Ranks = decimal p.ranks
part_bytes p o s parts.Cells = decimal (length p.cells)
part_bytes p o s (parts.Cell part) = cell_bytes p s.cell part
part_bytes p o s (parts.Source part) = cell_bytes p s.source part
part_bytes p o s (parts.Link part) = link_bytes p s.link part
part_bytes p o s (parts.List part) = list_part o s.buffer part
part_bytes p o s parts.Rank = decimal s.rank
part_bytes p o s parts.Step = decimal s.step

-- the next part, if there is one
abbrev pub with_part : Plan → Outline → Subject → Filling → Option Part → Filling
with_part p o s f None = f
with_part p o s f (Some part) = record { text = then_shown f.text (part_bytes p o s part); parts = f.parts + 1 }

-- a byte of a message; `%` stands for the next part
abbrev pub filled_by : Plan → Outline → Subject → List Part → Filling → ℕ → Filling
filled_by p o s ps f b =
    if b == 37 then with_part p o s f (slice_get ps f.parts) else record f { text = then_shown f.text (b ∷ []) }

-- a message of these words with its parts, as far as a line has room
abbrev pub shown : Plan → Outline → Subject → List ℕ × List Part → List ℕ
shown p o s message = (fold (filled_by p o s message.1) (record { text = []; parts = 0 }) message.0).text
