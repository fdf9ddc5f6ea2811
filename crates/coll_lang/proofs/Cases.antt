-- Whole texts that the definition computes, worked out by hand: groups, the later steps, choice texts.
use Rattle.std.proofs.Common.{◌≡◌, ℕ, List, [], ◌∷◌, ◌++◌, map, Some, None, Result, Ok, Err, false, refl, codes}
use Rattle.std.specs.List.{flat_map}
use Rattle.coll_text.specs.Values.{value_of, data_line}
use Rattle.ptl_types.specs.declared.elements.ElemType.TheVariants.{U8}
use Rattle.ptl_types.specs.declared.elements.AtomicOp.TheVariants.{Sum}
use Rattle.coll_shape.specs.declared.types.Version.TheVariants.{Two}
use Rattle.coll_shape.specs.declared.types.CollStep.TheVariants.{Allreduce, Broadcast}
use Rattle.coll_lang.specs.Program.{Program}
use Rattle.coll_lang.specs.Forms.{root_in, op_in, names_in, step_in, on_in, group_in, input_in, name_in, complete_in, form_of}
use Rattle.coll_lang.specs.Language.{read, read_from, judge, line_at, later_line, values_line, form_line, print_line, choice_line}
use Rattle.coll_lang.specs.Language.{step_line, rooted_line, step_on, source_named, input_line, group_line, buffer_named, ranks_in}
use Rattle.coll_lang.specs.Language.{described}
use Rattle.coll_lang.specs.declared.fault.Refusal.{Refusal}
use Rattle.coll_lang.specs.declared.fault.Refusal.TheVariants.{BadLine, BadRoot, BadGroup, WrongShape, NameTaken, BadNumber, BadRanks}
use Rattle.coll_lang.specs.declared.fault.Refusal.TheVariants.{UnknownBuffer}

text_of : List (List ℕ) → List ℕ
text_of ls = flat_map (λ l. l ++ 10 ∷ []) ls

answer : Result Program (ℕ × Refusal) → Result (Unit {0}) (ℕ × Refusal)
answer (Ok d) = Ok tt
answer (Err e) = Err e

-- `coll 2`, four ranks, a group of two of them, an input
head : List (List ℕ) → List (List ℕ)
head ls = codes "coll 2" ∷ codes "ranks 4" ∷ codes "group odd 1 3" ∷ codes "input a u8 1" ∷ codes "1" ∷ codes "2" ∷ codes "3" ∷ codes "4"
    ∷ ls

groups_read : answer (read
    (text_of (head (codes "on odd allreduce sum a b" ∷ codes "on odd broadcast 1 a c" ∷ codes "print b" ∷ codes "print c" ∷ codes "end"
    ∷ [])))) ≡ Ok tt
unfolding answer text_of head read read_from judge line_at later_line values_line form_line print_line step_line rooted_line step_on
    source_named input_line group_line buffer_named ranks_in form_of root_in op_in names_in step_in on_in group_in input_in name_in
    data_line value_of
groups_read = refl

root_is_a_place : answer (read (text_of (head (codes "on odd broadcast 2 a b" ∷ [])))) ≡ Err (9, BadRoot)
unfolding answer text_of head read read_from judge line_at later_line values_line form_line print_line step_line rooted_line step_on
    source_named input_line group_line buffer_named ranks_in form_of root_in op_in names_in step_in on_in group_in input_in name_in
    data_line value_of
root_is_a_place = refl

no_such_group : answer (read (text_of (head (codes "on even barrier" ∷ [])))) ≡ Err (9, BadGroup)
unfolding answer text_of head read read_from judge line_at later_line values_line form_line print_line step_line rooted_line step_on
    source_named input_line group_line buffer_named ranks_in form_of root_in op_in names_in step_in on_in group_in input_in name_in
    data_line value_of
no_such_group = refl

not_all_hold : answer (read (text_of (head (codes "on odd allreduce sum a b" ∷ codes "allgather b c" ∷ [])))) ≡ Err (10, WrongShape)
unfolding answer text_of head read read_from judge line_at later_line values_line form_line print_line step_line rooted_line step_on
    source_named input_line group_line buffer_named ranks_in form_of root_in op_in names_in step_in on_in group_in input_in name_in
    data_line value_of
not_all_hold = refl

falling_members : answer (read (text_of (codes "coll 2" ∷ codes "ranks 4" ∷ codes "group odd 3 1" ∷ []))) ≡ Err (3, BadGroup)
unfolding answer text_of read read_from judge line_at later_line form_line group_line ranks_in form_of group_in
falling_members = refl

group_in_version_1 : answer (read (text_of (codes "coll 1" ∷ codes "ranks 4" ∷ codes "group odd 1 3" ∷ []))) ≡ Err (3, BadLine)
unfolding answer text_of read read_from judge line_at later_line form_line group_line ranks_in form_of group_in
group_in_version_1 = refl

ranks_of_version_1 : answer (read (text_of (codes "coll 1" ∷ codes "ranks 65" ∷ []))) ≡ Err (2, BadRanks)
unfolding answer text_of read read_from judge line_at ranks_in
ranks_of_version_1 = refl

choice_read : answer (read
    (text_of (codes "coll 2" ∷ codes "ranks 3" ∷ codes "elect b" ∷ codes "tickets c" ∷ codes "print c" ∷ codes "end" ∷ []))) ≡ Ok tt
unfolding answer text_of read read_from judge line_at later_line form_line print_line choice_line buffer_named ranks_in form_of name_in
    described
choice_read = refl

no_step_behind_a_choice : answer (read (text_of (codes "coll 2" ∷ codes "ranks 3" ∷ codes "elect b" ∷ codes "barrier" ∷ [])))
    ≡ Err (4, BadLine)
unfolding answer text_of read read_from judge line_at later_line form_line print_line choice_line buffer_named ranks_in form_of name_in
    step_in root_in op_in names_in
no_step_behind_a_choice = refl

no_choice_behind_remote : answer (read (text_of (codes "coll 2" ∷ codes "ranks 3" ∷ codes "complete remote" ∷ codes "elect b" ∷ [])))
    ≡ Err (4, BadLine)
unfolding answer text_of read read_from judge line_at later_line form_line print_line choice_line buffer_named ranks_in form_of name_in
    complete_in
no_choice_behind_remote = refl

-- two members, two elements each
pair : List (List ℕ) → List (List ℕ)
pair ls = codes "coll 2" ∷ codes "ranks 2" ∷ codes "input a u8 2" ∷ codes "1 2" ∷ codes "3 4" ∷ ls

later_steps_read : answer (read
    (text_of (pair (codes "scatter 1 a b" ∷ codes "reducescatter sum a c" ∷ codes "exscan sum a d" ∷ codes "gatherv 0 d e" ∷ codes "print b"
    ∷ codes "end" ∷ [])))) ≡ Ok tt
unfolding answer text_of pair read read_from judge line_at later_line values_line form_line print_line step_line rooted_line step_on
    source_named input_line buffer_named ranks_in form_of root_in op_in names_in step_in input_in name_in data_line value_of
later_steps_read = refl

no_block_each : answer (read
    (text_of (codes "coll 2" ∷ codes "ranks 3" ∷ codes "group g 0 2" ∷ codes "input a u8 1" ∷ codes "1" ∷ codes "2" ∷ codes "3"
    ∷ codes "on g allreduce sum a b" ∷ codes "on g scatter 0 b c" ∷ []))) ≡ Err (9, WrongShape)
unfolding answer text_of read read_from judge line_at later_line values_line form_line print_line step_line rooted_line step_on
    source_named input_line group_line buffer_named ranks_in form_of root_in op_in names_in step_in on_in group_in input_in name_in
    data_line value_of
no_block_each = refl

-- what the first of these texts describes, whole
groups_described : read (text_of
    (head (codes "on odd allreduce sum a b" ∷ codes "on odd broadcast 1 a c" ∷ codes "print b" ∷ codes "print c" ∷ codes "end" ∷ [])))
    ≡ Ok (record {
      shape = record {
        version = Two;
        ranks = 4;
        remote = false;
        groups = record { name = codes "odd"; members = 1 ∷ 3 ∷ [] } ∷ [];
        buffers =
            record { name = codes "a"; ty = U8; spread = record { length = 1; holders = 0 ∷ 1 ∷ 2 ∷ 3 ∷ [] } }
            ∷ record { name = codes "b"; ty = U8; spread = record { length = 1; holders = 1 ∷ 3 ∷ [] } }
            ∷ record { name = codes "c"; ty = U8; spread = record { length = 1; holders = 1 ∷ 3 ∷ [] } } ∷ [];
        inputs = 1;
        steps = Allreduce Sum 0 1 ∷ Broadcast 1 0 2 ∷ [];
        on = Some 0 ∷ Some 0 ∷ [];
        prints = 1 ∷ 2 ∷ [];
      };
      inputs = ((1 ∷ []) ∷ (2 ∷ []) ∷ (3 ∷ []) ∷ (4 ∷ []) ∷ []) ∷ [];
      choices = None;
    })
unfolding text_of head read read_from judge line_at later_line values_line form_line print_line step_line rooted_line step_on source_named
    input_line group_line buffer_named ranks_in form_of root_in op_in names_in step_in on_in group_in input_in name_in data_line value_of
    described
groups_described = refl

-- one line more after the input, and what is refused first on it
last_line : List ℕ → Result (Unit {0}) (ℕ × Refusal)
last_line l = answer (read (text_of (head (l ∷ []))))

-- with an unknown group: no root is judged, but the other rules come first
unknown_group : map last_line
    (codes "on even broadcast 9 a b" ∷ codes "on even gather 0 z b" ∷ codes "on even broadcast x a b" ∷ codes "on even allreduce sum a odd"
    ∷ [])
    ≡ Err (9, BadGroup) ∷ Err (9, UnknownBuffer) ∷ Err (9, BadNumber) ∷ Err (9, NameTaken) ∷ []
unfolding last_line answer text_of head read read_from judge line_at later_line values_line form_line step_line rooted_line step_on
    source_named input_line group_line buffer_named ranks_in form_of root_in op_in names_in step_in on_in group_in input_in name_in
    data_line value_of
unknown_group = refl

-- a buffer is no group, a group is no buffer, a choice stands in no group, and a root may be any number
other_names : map last_line
    (codes "on a barrier" ∷ codes "print odd" ∷ codes "on odd elect b" ∷ codes "broadcast 99999999999999999999 a b" ∷ [])
    ≡ Err (9, BadGroup) ∷ Err (9, UnknownBuffer) ∷ Err (9, BadLine) ∷ Err (9, BadRoot) ∷ []
unfolding last_line answer text_of head read read_from judge line_at later_line values_line form_line print_line step_line rooted_line
    step_on source_named input_line group_line buffer_named ranks_in form_of root_in op_in names_in step_in on_in group_in input_in
    name_in data_line value_of
other_names = refl

-- a second group
second_group : List ℕ → Result (Unit {0}) (ℕ × Refusal)
second_group l = answer (read (text_of (codes "coll 2" ∷ codes "ranks 8" ∷ codes "group odd 1 3 5 7" ∷ l ∷ [])))

group_lines : map second_group (codes "group g 9 x" ∷ codes "group g 0 0" ∷ codes "group odd 4" ∷ codes "group g 8" ∷ [])
    ≡ Err (4, BadNumber) ∷ Err (4, BadGroup) ∷ Err (4, NameTaken) ∷ Err (4, BadGroup) ∷ []
unfolding second_group answer text_of read read_from judge line_at later_line form_line group_line ranks_in form_of group_in
group_lines = refl

-- as many words as are due, none of them empty: no malformed line
words_for_values : answer (read (text_of (codes "coll 2" ∷ codes "ranks 2" ∷ codes "input a u8 2" ∷ codes "complete remote" ∷ [])))
    ≡ Err (4, BadNumber)
unfolding answer text_of read read_from judge line_at later_line values_line form_line input_line ranks_in form_of input_in data_line
    value_of
words_for_values = refl
