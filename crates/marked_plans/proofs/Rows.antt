-- Lists that grow by one row.
use Rattle.std.proofs.Common.{◌≡◌, ℕ, suc, ◌+◌, ◌*◌, List, [], ◌∷◌, ◌++◌, length, get_or, refl, ap, ap₂, sym, ◌∙◌, arith}
use Rattle.std.specs.List.{flat_map}
use Rattle.std.proofs.lemmas.List.{flat_map_more}
use Rattle.number_lists.specs.Numbers.{from_to}
use Rattle.given_lines.specs.declared.given.Mark.{Mark}
use Rattle.given_lines.specs.declared.given.Mark.TheVariants.{Enter, Leave}
use Rattle.coll_shape.specs.Outline.{Outline}
use Rattle.plan_core.specs.Draw.{HeldCells}
use Rattle.plan_core.proofs.Drawing.{from_to-more}
use Rattle.plan_steps.specs.Rounds.{rounds}
use Rattle.schedule_compiler.specs.shapes.Drawing.{drawing_of}
use Rattle.marked_plans.specs.Marks.{barrier_marks, marks_of, member_marks, result_marks}

pub one_row_more : {A : Type 0} (f : ℕ → List A) (before : List A) (n : ℕ)
    → (before ++ flat_map f (from_to 0 n)) ++ f n ≡ before ++ flat_map f (from_to 0 (n + 1))
one_row_more {A} f before n =
    flat_map_more f before (from_to 0 n) n
    ∙ ap (λ (ns : List ℕ). before ++ flat_map f ns)
    (ap (λ m. from_to 0 n ++ m ∷ []) (let z : n ≡ 0 + n = omega arith in z) ∙ sym (from_to-more 0 n)
    ∙ ap (from_to 0) (let z : suc n ≡ n + 1 = omega arith in z))

-- one member more
pub member_more : (s first : ℕ) (g : List ℕ) (before old now : List Mark) (i rank entry exit : ℕ)
    → old ≡ before ++ flat_map (member_marks s first g) (from_to 0 i)
    → now ≡ old ++ (Enter s rank entry ∷ Leave s rank exit ∷ [])
    → rank ≡ get_or g i 0 → entry ≡ first + i → exit ≡ first + (rounds (length g) * length g + i)
    → now ≡ before ++ flat_map (member_marks s first g) (from_to 0 (i + 1))
member_more s first g before old now i rank entry exit old_is now_is rank_is entry_is exit_is =
    let same : (Enter s rank entry ∷ Leave s rank exit ∷ []) ≡ member_marks s first g i = rw (rank_is, entry_is, exit_is) refl in
    now_is
    ∙ ap (λ (ms : List Mark). ms ++ (Enter s rank entry ∷ Leave s rank exit ∷ [])) old_is
    ∙ ap (λ (ms : List Mark). (before ++ flat_map (member_marks s first g) (from_to 0 i)) ++ ms) same
    ∙ one_row_more (member_marks s first g) before i

-- all of them
pub all_marks : (o : Outline) (h : HeldCells) (none some all : List Mark) → h ≡ (drawing_of o).held → none ≡ []
    → some ≡ none ++ result_marks o h → all ≡ some ++ barrier_marks o → all ≡ marks_of o
unfolding marks_of
all_marks o h none some all held_is none_is some_is all_is =
    all_is
    ∙ ap (λ (ms : List Mark). ms ++ barrier_marks o)
    (some_is ∙ ap₂ (λ (ms : List Mark) (x : HeldCells). ms ++ result_marks o x) none_is held_is)
