-- Order lines and whole inputs, with answers by hand.
use Rattle.std.proofs.Common.{ℕ, ◌≡◌, List, [], ◌∷◌, ◌++◌, Ok, Err, refl}
use Rattle.std.specs.Prelude.{codes}
use Rattle.ptl_types.specs.declared.headers.Lane.TheVariants.{Request, Answer}
use Rattle.ptl_types.specs.declared.steps.LocalStep.TheVariants.{Start, Receive, Fire}
use Rattle.coll_text.specs.Text.{lines}
use Rattle.coll_lang.specs.declared.fault.Refusal.TheVariants.{AfterEnd, BadByte, BadOrder, Unended}
use Rattle.order_lines.specs.Orders.{order_at, order_of, read_orders, step_of}
use Rattle.order_lines.specs.Check.{description_bytes, line_after}

whole_order : order_at 2 0 5 (codes "order 0 s f0 f10 r1 a0") ≡ Ok (Start ∷ Fire 0 ∷ Fire 10 ∷ Receive 1 Request ∷ Receive 0 Answer ∷ [])
unfolding order_at order_of step_of
whole_order = refl

no_steps : order_at 1 0 5 (codes "order 0") ≡ Ok []
unfolding order_at order_of step_of
no_steps = refl

no_such_step : order_at 1 0 5 (codes "order 0 x") ≡ Err (5, BadOrder)
unfolding order_at order_of step_of
no_such_step = refl

more_than_a_start : order_at 1 0 5 (codes "order 0 s0") ≡ Err (5, BadOrder)
unfolding order_at order_of step_of
more_than_a_start = refl

no_such_rank : order_at 2 0 5 (codes "order 0 r2") ≡ Err (5, BadOrder)
unfolding order_at order_of step_of
no_such_rank = refl

another_rank_is_due : order_at 2 0 5 (codes "order 1 s") ≡ Err (5, BadOrder)
unfolding order_at order_of step_of
another_rank_is_due = refl

no_number : order_at 2 0 5 (codes "order 0 f") ≡ Err (5, BadOrder)
unfolding order_at order_of step_of
no_number = refl

one_spelling : order_at 2 0 5 (codes "order 0 f00") ≡ Err (5, BadOrder)
unfolding order_at order_of step_of
one_spelling = refl

greatest_number : order_at 2 0 5 (codes "order 0 f4294967295") ≡ Ok (Fire 4294967295 ∷ [])
unfolding order_at order_of step_of
greatest_number = refl

too_large : order_at 2 0 5 (codes "order 0 f4294967296") ≡ Err (5, BadOrder)
unfolding order_at order_of step_of
too_large = refl

a_space_too_many : order_at 2 0 5 (codes "order 0 s ") ≡ Err (5, BadOrder)
unfolding order_at order_of step_of
a_space_too_many = refl

a_tab : order_at 2 0 5 (codes "order 0" ++ 9 ∷ 115 ∷ []) ≡ Err (5, BadByte)
unfolding order_at order_of step_of
a_tab = refl

one_missing : read_orders 2 2 0 5 (lines (codes "order 0 s" ++ 10 ∷ [])) ≡ Err (6, Unended)
unfolding read_orders order_at order_of step_of
one_missing = refl

no_end_of_line : read_orders 1 1 0 5 (lines (codes "order 0 s")) ≡ Err (5, Unended)
unfolding read_orders order_at order_of step_of
no_end_of_line = refl

bytes_behind : read_orders 1 1 0 5 (lines (codes "order 0 s" ++ 10 ∷ codes "x")) ≡ Err (6, AfterEnd)
unfolding read_orders order_at order_of step_of
bytes_behind = refl

-- ---- whole inputs
abbrev one_barrier : List ℕ
one_barrier = codes "coll 1" ++ 10 ∷ codes "ranks 1" ++ 10 ∷ codes "barrier" ++ 10 ∷ codes "end" ++ 10 ∷ []

front : description_bytes (lines (one_barrier ++ codes "order 0 x" ++ 10 ∷ [])) ≡ 27
unfolding description_bytes
front = refl

next : line_after 1 (lines (one_barrier ++ codes "order 0 x" ++ 10 ∷ [])) ≡ 5
unfolding line_after
next = refl
