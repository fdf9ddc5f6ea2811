-- The lines that the program writes: orders, verdicts, results, plans, refusals and summaries.
use Rattle.std.specs.Prelude.{ℕ, true, false, ◌≡◌, List, [], ◌∷◌, ◌++◌, Some, None, codes, refl}
use Rattle.std.specs.Fmt.{digits}
use Rattle.ptl_types.specs.declared.elements.AtomicOp.TheVariants.{Bxor, Sum}
use Rattle.ptl_types.specs.declared.elements.ElemType.TheVariants.{I8, I64, U16, U8}
use Rattle.ptl_types.specs.declared.headers.Lane.TheVariants.{Answer, Request}
use Rattle.ptl_types.specs.declared.steps.Cause.TheVariants.{NotAtRest, NotReady, NotSent, StartedTwice}
use Rattle.ptl_types.specs.declared.steps.LocalStep.TheVariants.{Start, Receive, Fire}
use Rattle.plan_core.specs.declared.LinkKind.TheVariants.{Atomic, Bump, Put}
use Rattle.plan_core.specs.Plan.{Plan}
use Rattle.coll_text.specs.Elements.{elements}
use Rattle.coll_shape.specs.declared.types.Version.TheVariants.{One}
use Rattle.coll_shape.specs.Meaning.{Lists}
use Rattle.coll_shape.specs.Outline.{Outline}
use Rattle.coll_lang.specs.declared.fault.Refusal.TheVariants.{BadNumber, OneThread, TooLong}
use Rattle.run_text.specs.Lines.{rest_line, result_line, text_of, value_line}
use Rattle.run_text.specs.Orders.{fails_line, order_line, order_text}
use Rattle.run_text.specs.Plans.{plan_text}
use Rattle.run_text.specs.Refused.{refusal_line}
use Rattle.run_text.specs.Summary.{buffer_sum, summary_of}

-- a line of these bytes
abbrev ends : List ℕ → List ℕ
ends bytes = bytes ++ 10 ∷ []

-- ---- orders and verdicts
a_line_of_steps : order_line 1 (Start ∷ Receive 2 Request ∷ Receive 0 Answer ∷ Fire 17 ∷ []) ≡ ends (codes "order 1 s r2 a0 f17")
unfolding digits
a_line_of_steps = refl

a_line_of_nothing : order_line 12 [] ≡ ends (codes "order 12")
unfolding digits
a_line_of_nothing = refl

rank_by_rank : order_text 2 (λ r. Start ∷ Fire r ∷ []) ≡ ends (codes "order 0 s f0") ++ ends (codes "order 1 s f1")
unfolding digits
rank_by_rank = refl

what_fails : (fails_line 2 13 NotAtRest ≡ ends (codes "fails 2 13 NotAtRest"))
    × (fails_line 0 1 StartedTwice ≡ ends (codes "fails 0 1 StartedTwice"))
    × (fails_line 1 2 NotSent ≡ ends (codes "fails 1 2 NotSent")) × (fails_line 1 3 NotReady ≡ ends (codes "fails 1 3 NotReady"))
unfolding digits
what_fails = (refl, refl, refl, refl)

-- ---- results
signed_bytes : result_line (codes "b") 3 I8 (127 ∷ 128 ∷ 255 ∷ 0 ∷ []) ≡ ends (codes "b 3 127 -128 -1 0")
unfolding digits elements
signed_bytes = refl

unsigned_words : result_line (codes "sum_1") 0 U16 (255 ∷ 255 ∷ 1 ∷ 2 ∷ []) ≡ ends (codes "sum_1 0 65535 513")
unfolding digits elements
unsigned_words = refl

the_least : result_line (codes "x") 1 I64 (0 ∷ 0 ∷ 0 ∷ 0 ∷ 0 ∷ 0 ∷ 0 ∷ 128 ∷ []) ≡ ends (codes "x 1 -9223372036854775808")
unfolding digits elements
the_least = refl

no_values : result_line (codes "x") 2 U8 [] ≡ ends (codes "x 2")
unfolding digits elements
no_values = refl

of_a_choice : value_line (codes "leader") 4 2 ≡ ends (codes "leader 4 2")
unfolding digits
of_a_choice = refl

the_end : rest_line ≡ ends (codes "rest")
unfolding digits
the_end = refl

-- a description of two ranks with two buffers, of which the second and then the first is printed
abbrev two_buffers : Outline
two_buffers = record {
  version = One;
  ranks = 2;
  remote = false;
  groups = [];
  buffers =
      record { name = codes "a"; ty = U8; spread = record { length = 1; holders = 0 ∷ 1 ∷ [] } }
      ∷ record { name = codes "b"; ty = I8; spread = record { length = 2; holders = 0 ∷ [] } } ∷ [];
  inputs = 1;
  steps = [];
  on = [];
  prints = 1 ∷ 0 ∷ [];
}

abbrev held : Lists
held = ((1 ∷ []) ∷ (2 ∷ []) ∷ []) ∷ ((3 ∷ 255 ∷ []) ∷ [] ∷ []) ∷ []

as_printed : text_of two_buffers held
    ≡ ends (codes "b 0 3 -1") ++ ends (codes "b 1") ++ ends (codes "a 0 1") ++ ends (codes "a 1 2") ++ ends (codes "rest")
unfolding digits elements
as_printed = refl

-- ---- a summary: of a signed type bit patterns are added
sums : (buffer_sum two_buffers held 0 ≡ 3) × (buffer_sum two_buffers held 1 ≡ 258)
unfolding digits elements
sums = (refl, refl)

summed : summary_of 7 20 30 two_buffers held
    ≡ ends (codes "large 7 ranks 64 cells 20 links 30") ++ ends (codes "b 258") ++ ends (codes "a 3") ++ ends (codes "rest")
unfolding digits elements
summed = refl

-- ---- refusals
refused_in_line_3 : (refusal_line 3 BadNumber ≡ ends (codes "refused 3 BadNumber"))
    × (refusal_line 0 TooLong ≡ ends (codes "refused 0 TooLong"))
    × (refusal_line 0 OneThread ≡ ends (codes "refused 0 OneThread"))
unfolding digits
refused_in_line_3 = (refl, refl, refl)

-- ---- a plan with a cell and a link of each kind, whose rank 0 sends twice
abbrev small : Plan
small = record {
  ranks = 2;
  remote = true;
  cells = record { rank = 0; ty = U8; op = None; length = 0; needs = 1 } ∷ record { rank = 0; ty = U16; op = None; length = 4; needs = 1 }
      ∷ record { rank = 1; ty = U16; op = Some Sum; length = 4; needs = 1 }
      ∷ record { rank = 1; ty = I64; op = Some Bxor; length = 8; needs = 1 } ∷ [];
  links = record { source = 0; source_offset = 0; length = 0; target = 1; target_offset = 0; kind = Bump }
      ∷ record { source = 1; source_offset = 0; length = 4; target = 2; target_offset = 0; kind = Atomic }
      ∷ record { source = 1; source_offset = 1; length = 2; target = 3; target_offset = 6; kind = Put } ∷ [];
}

small_in_words : plan_text small
    ≡ ends (codes "plan 2 4 3 remote")
    ++ ends (codes "cell 0 0 u8 - 0 1") ++ ends (codes "cell 1 0 u16 - 4 1") ++ ends (codes "cell 2 1 u16 sum 4 1")
    ++ ends (codes "cell 3 1 i64 bxor 8 1")
    ++ ends (codes "link 0 0 0 0 1 0 bump") ++ ends (codes "link 1 1 0 4 2 0 atomic") ++ ends (codes "link 2 1 1 2 3 6 put")
    ++ ends (codes "done 0 4") ++ ends (codes "done 1 2") ++ ends (codes "end")
unfolding digits
small_in_words = refl

local_in_words : plan_text (record small { remote = false; cells = []; links = []; ranks = 1 })
    ≡ ends (codes "plan 1 0 0 local") ++ ends (codes "done 0 0") ++ ends (codes "end")
unfolding digits
local_in_words = refl
