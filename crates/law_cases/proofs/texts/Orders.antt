-- Order lines: words, lines, and the pieces of a text with their refusals; and where a description ends that orders follow.
use Rattle.std.specs.Prelude.{ℕ, false, ◌≡◌, List, [], ◌∷◌, ◌++◌, Some, None, Ok, Err, codes, refl}
use Rattle.ptl_types.specs.declared.headers.Lane.TheVariants.{Answer, Request}
use Rattle.ptl_types.specs.declared.steps.LocalStep.TheVariants.{Start, Receive, Fire}
use Rattle.coll_text.specs.Text.{line, lines, words}
use Rattle.coll_shape.specs.declared.types.Version.TheVariants.{One}
use Rattle.coll_lang.specs.Program.{Program}
use Rattle.coll_lang.specs.declared.fault.Refusal.TheVariants.{AfterEnd, BadByte, BadOrder, BadRanks, OneThread, Unended}
use Rattle.order_lines.specs.Check.{description_bytes, line_after, orders_after, with_orders}
use Rattle.order_lines.specs.Orders.{order_at, order_of, read_orders, step_of}

-- ---- words of steps, of three ranks
start_word : (step_of 3 (codes "s") ≡ Some Start) × (step_of 3 (codes "s1") ≡ None) × (step_of 3 (codes "S") ≡ None)
unfolding step_of
start_word = (refl, refl, refl)

request_word : (step_of 3 (codes "r2") ≡ Some (Receive 2 Request)) × (step_of 3 (codes "r0") ≡ Some (Receive 0 Request))
    × (step_of 3 (codes "r3") ≡ None) × (step_of 3 (codes "r") ≡ None) × (step_of 3 (codes "r02") ≡ None)
unfolding step_of
request_word = (refl, refl, refl, refl, refl)

answer_word : (step_of 3 (codes "a2") ≡ Some (Receive 2 Answer)) × (step_of 3 (codes "a3") ≡ None)
    × (step_of 1 (codes "a0") ≡ Some (Receive 0 Answer))
unfolding step_of
answer_word = (refl, refl, refl)

firing_word : (step_of 3 (codes "f4294967295") ≡ Some (Fire 4294967295)) × (step_of 3 (codes "f4294967296") ≡ None)
    × (step_of 3 (codes "f0") ≡ Some (Fire 0)) × (step_of 3 (codes "f") ≡ None) × (step_of 3 (codes "f-1") ≡ None)
unfolding step_of
firing_word = (refl, refl, refl, refl, refl)

no_word : (step_of 3 [] ≡ None) × (step_of 3 (codes "d0") ≡ None)
unfolding step_of
no_word = (refl, refl)

-- ---- a line of rank 1, of three ranks
order_of_rank_1 : order_of 3 1 (words (codes "order 1 s r2 a0 f7")) ≡ Some (Start ∷ Receive 2 Request ∷ Receive 0 Answer ∷ Fire 7 ∷ [])
unfolding order_of step_of
order_of_rank_1 = refl

order_without_steps : order_of 3 1 (words (codes "order 1")) ≡ Some []
unfolding order_of step_of
order_without_steps = refl

no_order : (order_of 3 1 (words (codes "order 2 s")) ≡ None) × (order_of 3 1 (words (codes "orders 1 s")) ≡ None)
    × (order_of 3 1 (words (codes "order")) ≡ None) × (order_of 3 1 (words (codes "order 1 ")) ≡ None)
    × (order_of 3 1 (words (codes "order 1  s")) ≡ None) × (order_of 3 1 (words (codes "order 01 s")) ≡ None)
unfolding order_of step_of
no_order = (refl, refl, refl, refl, refl, refl)

-- a byte that isn't allowed is told before what the words are: 31 and 127 aren't, 32 and 126 are
bytes_of_a_line : (order_at 3 1 7 (codes "order 1 s" ++ 127 ∷ []) ≡ Err (7, BadByte))
    × (order_at 3 1 7 (31 ∷ codes "order 1 s") ≡ Err (7, BadByte))
    × (order_at 3 1 7 (codes "order 1 s" ++ 126 ∷ []) ≡ Err (7, BadOrder)) × (order_at 3 1 7 (32 ∷ codes "order 1 s") ≡ Err (7, BadOrder))
    × (order_at 3 1 7 (codes "order 1 s") ≡ Ok (Start ∷ []))
unfolding order_at order_of step_of
bytes_of_a_line = (refl, refl, refl, refl, refl)

-- ---- the pieces of a text from line 5 on, of two ranks
abbrev first : List ℕ
first = line (codes "order 0 s" ∷ [])

abbrev second : List ℕ
second = line (codes "order 1 s f2" ∷ [])

two_orders : read_orders 2 2 0 5 (lines (first ++ second)) ≡ Ok ((Start ∷ []) ∷ (Start ∷ Fire 2 ∷ []) ∷ [])
unfolding read_orders order_at order_of step_of
two_orders = refl

one_is_due : read_orders 2 2 0 5 (lines first) ≡ Err (6, Unended)
unfolding read_orders order_at order_of step_of
one_is_due = refl

its_line_end_is_due : read_orders 2 2 0 5 (lines (first ++ codes "order 1 s")) ≡ Err (6, Unended)
unfolding read_orders order_at order_of step_of
its_line_end_is_due = refl

one_too_many : (read_orders 2 2 0 5 (lines (first ++ second ++ second)) ≡ Err (7, AfterEnd))
    × (read_orders 2 2 0 5 (lines (first ++ second ++ codes "x")) ≡ Err (7, AfterEnd))
unfolding read_orders order_at order_of step_of
one_too_many = (refl, refl)

-- of two refusals the first counts
out_of_order : (read_orders 2 2 0 5 (lines (second ++ first)) ≡ Err (5, BadOrder))
    × (read_orders 2 2 0 5 (lines (first ++ first)) ≡ Err (6, BadOrder))
    × (read_orders 2 2 0 5 (lines (first ++ line ((127 ∷ []) ∷ []))) ≡ Err (6, BadByte))
unfolding read_orders order_at order_of step_of
out_of_order = (refl, refl, refl)

-- ---- where the description ends: with the first line `end`
abbrev until_end : List ℕ
until_end = line (codes "ab" ∷ []) ++ line (codes "end" ∷ []) ++ line (codes "end" ∷ []) ++ codes "x"

bytes_until_end : (description_bytes (lines until_end) ≡ 7) × (description_bytes (lines (codes "ab")) ≡ 2)
    × (description_bytes (lines (line (codes "ends" ∷ []) ++ codes "end")) ≡ 8)
unfolding description_bytes
bytes_until_end = (refl, refl, refl)

line_behind_end : (line_after 1 (lines until_end) ≡ 3) × (line_after 1 (lines (codes "ab")) ≡ 1)
    × (line_after 4 (lines (line (codes "ab" ∷ []))) ≡ 5)
unfolding line_after
line_behind_end = (refl, refl, refl)

-- ---- a description and its orders: what is refused of the first counts, and a choice text has no orders
abbrev on_one_rank : Program
on_one_rank = record {
  shape = record {
    version = One;
    ranks = 1;
    remote = false;
    groups = [];
    buffers = [];
    inputs = 0;
    steps = [];
    on = [];
    prints = [];
  };
  inputs = [];
  choices = None;
}

with_one_order : with_orders (Ok on_one_rank) 4 (lines (line (codes "order 0 s f0" ∷ []))) ≡ Ok (on_one_rank, (Start ∷ Fire 0 ∷ []) ∷ [])
unfolding read_orders order_at order_of step_of
with_one_order = refl

its_line_is_refused : with_orders (Ok on_one_rank) 4 (lines (line (codes "order 1 s" ∷ []))) ≡ Err (4, BadOrder)
unfolding read_orders order_at order_of step_of
its_line_is_refused = refl

description_first : with_orders (Err (2, BadRanks)) 4 (lines (line (codes "order 1 s" ∷ []))) ≡ Err (2, BadRanks)
description_first = refl

no_orders_of_choices : orders_after on_one_rank (Some (record { steps = []; prints = [] })) 4 (lines (codes "x")) ≡ Err (0, OneThread)
no_orders_of_choices = refl
