-- A group, an input and a data line keep what the lines say well formed and written.
use Rattle.std.proofs.Common.{◌≡◌, ℕ, zero, suc, ◌+◌, ◌-◌, ◌*◌, ◌<◌, ◌≤◌, ◌^◌, List, [], ◌∷◌, ◌++◌, length, map, take, get_or, Some, Result}
use Rattle.std.proofs.Common.{Ok, Err, true, ◌&&◌, refl, sym, ap, ◌∙◌, arith, codes, subst, append_assoc}
use Rattle.std.specs.Prelude.{nat_lt, nat_le, option_map, All}
use Rattle.std.specs.List.{list_all}
use Rattle.std.specs.Fmt.{decimal}
use Rattle.std.proofs.lemmas.Bool.Decides.{nat_tests}
use Rattle.std.proofs.lemmas.List.{append-nil}
use Rattle.std.proofs.lemmas.Grind.{flat_map-append}
use Rattle.ptl_types.specs.declared.elements.ElemType.{ElemType}
use Rattle.ptl_types.specs.Operations.{bytes_of}
use Rattle.coll_text.specs.Text.{line, is_name, number_of, number_between, words}
use Rattle.coll_text.specs.Elements.{elements, value_word}
use Rattle.coll_text.specs.Values.{data_line}
use Rattle.coll_text.specs.declared.values.Flaw.{Flaw}
use Rattle.coll_text.specs.declared.values.Flaw.TheVariants.{Malformed, NoValue}
use Rattle.coll_text.proofs.Spelled.{in_range, between_spelled, number_spelled, then, mapped, rejoined}
use Rattle.coll_text.proofs.DataSpelled.{data_said}
use Rattle.coll_shape.specs.declared.types.Version.TheVariants.{Two}
use Rattle.coll_shape.specs.declared.types.Buffer.{Buffer}
use Rattle.coll_shape.specs.declared.types.Group.{Group}
use Rattle.coll_shape.specs.WellFormed.{StandsIn, AreMembers}
use Rattle.coll_shape.specs.declared.limits.TheConstants.{MOST_RANKS, MOST_GROUPS, MOST_BUFFERS, MOST_GIVEN}
use Rattle.coll_lang.specs.Words.{type_word}
use Rattle.coll_lang.specs.Forms.{group, input}
use Rattle.coll_lang.specs.Language.{Past, is_taken, data_due, input_line, input_buffer, group_line, values_line, unless_flawed}
use Rattle.coll_lang.specs.Language.{all_numbers, are_members, is_rising}
use Rattle.coll_lang.specs.Spelling.{head_text, remote_text, group_text, groups_text, input_text, data_text, inputs_text}
use Rattle.coll_lang.specs.declared.stage.Stage.TheVariants.{Groups}
use Rattle.coll_lang.specs.declared.fault.Refusal.TheVariants.{BadNumber, NameTaken, TooMany, BadGroup}
use Rattle.coll_lang.proofs.FormSaid.{form_words}
use Rattle.coll_lang.proofs.InputLists.{IsListOf, Filled, Filling, one_input, starts_filling, is_filled, fills, one_data_line}
use Rattle.coll_lang.proofs.Growing.{longer}
use Rattle.coll_lang.proofs.Lines.{group_facts, input_facts}
use Rattle.coll_lang.proofs.Sound.{outline, tail, body, AtEarly, AtInputs, AtData, ok_of, some_of, passed, ok_is, room, both_true, not_not}
use Rattle.coll_lang.proofs.Sound.{new_name, no_tail, all_taken, behind_inputs}

-- ---- members
less : (m n : ℕ) → nat_lt m n ≡ true → m < n
less m n h = grind (arith, nat_tests)

below_at : (n : ℕ) (ms : List ℕ) → list_all (λ m. nat_lt m n) ms ≡ true → (i : ℕ) → i < length ms → get_or ms i 0 < n
below_at n [] h i l = absurd (omega arith)
below_at n (m ∷ ms) h zero l = less m n (both_true (nat_lt m n) (list_all (λ m. nat_lt m n) ms) h).0
below_at n (m ∷ ms) h (suc i) l = below_at n ms (both_true (nat_lt m n) (list_all (λ m. nat_lt m n) ms) h).1 i (omega arith)

above : (m : ℕ) (ms : List ℕ) → is_rising (m ∷ ms) ≡ true → (j : ℕ) → j < length ms → m < get_or ms j 0
above m [] h j l = absurd (omega arith)
above m (n ∷ ns) h zero l = less m n (both_true (nat_lt m n) (is_rising (n ∷ ns)) h).0
above m (n ∷ ns) h (suc j) l =
    let p = both_true (nat_lt m n) (is_rising (n ∷ ns)) h in
    let a = less m n p.0 in
    let b = above n ns p.1 j (omega arith) in
    omega (arith, a, b)

rest_rises : (m : ℕ) (ms : List ℕ) → is_rising (m ∷ ms) ≡ true → is_rising ms ≡ true
rest_rises m [] h = refl
rest_rises m (n ∷ ns) h = (both_true (nat_lt m n) (is_rising (n ∷ ns)) h).1

rises : (ms : List ℕ) → is_rising ms ≡ true → (i j : ℕ) → i < j → j < length ms → get_or ms i 0 < get_or ms j 0
rises [] h i j lt l = absurd (omega arith)
rises (m ∷ ms) h zero zero lt l = absurd (omega arith)
rises (m ∷ ms) h zero (suc j) lt l = above m ms h j (omega arith)
rises (m ∷ ms) h (suc i) zero lt l = absurd (omega arith)
rises (m ∷ ms) h (suc i) (suc j) lt l = rises ms (rest_rises m ms h) i j (omega arith) (omega arith)

many : (n m : ℕ) (ms : List ℕ) → is_rising (m ∷ ms) ≡ true → list_all (λ m. nat_lt m n) (m ∷ ms) ≡ true → m + length (m ∷ ms) ≤ n
many n m [] h b = let l = less m n (both_true (nat_lt m n) true b).0 in omega (arith, l)
many n m (k ∷ ks) h b =
    let p = both_true (nat_lt m k) (is_rising (k ∷ ks)) h in
    let l = less m k p.0 in
    let r = many n k ks p.1 (both_true (nat_lt m n) (list_all (λ m. nat_lt m n) (k ∷ ks)) b).1 in
    omega (arith, l, r)

few_members : (n : ℕ) (ms : List ℕ) → n ≤ MOST_RANKS → is_rising ms ≡ true → list_all (λ m. nat_lt m n) ms ≡ true → length ms ≤ MOST_RANKS
few_members n [] le h b = omega arith
few_members n (m ∷ ms) le h b = let r = many n m ms h b in omega (arith, le, r)

pub members_are : (n : ℕ) (ms : List ℕ) → n ≤ MOST_RANKS → are_members n ms ≡ true → AreMembers n ms
members_are n ms le h =
    let p = both_true (list_all (λ m. nat_lt m n) ms && is_rising ms) (nat_lt 0 (length ms)) h in
    let q = both_true (list_all (λ m. nat_lt m n) ms) (is_rising ms) p.0 in
    record { some = less 0 (length ms) p.1; at_most = few_members n ms le q.1 q.0; ranks = below_at n ms q.0; rising = rises ms q.1 }

numbers_spelled : (ws : List (List ℕ)) (ms : List ℕ) → all_numbers ws ≡ Some ms → ((i : ℕ) → i < length ms → get_or ms i 0 < 2 ^ 64)
    → ws ≡ map decimal ms
numbers_spelled [] [] h s = refl
numbers_spelled [] (m ∷ ms) h s = cc
numbers_spelled (w ∷ ws) ms h s =
    let n = then (λ n. option_map (λ ns. n ∷ ns) (all_numbers ws)) (number_of w) ms h in
    let r = mapped (λ ns. n.0 ∷ ns) (all_numbers ws) ms n.2 in
    let t : (i : ℕ) → i < length (n.0 ∷ r.0) → get_or (n.0 ∷ r.0) i 0 < 2 ^ 64 =
    subst (λ (l : List ℕ). (i : ℕ) → i < length l → get_or l i 0 < 2 ^ 64) (sym r.2) s in
    ap (λ (x : List ℕ). x ∷ ws) (number_spelled n.0 w (t 0 (omega arith)) n.1)
    ∙ ap (λ (x : List (List ℕ)). decimal n.0 ∷ x) (numbers_spelled ws r.0 r.1 (λ i l. t (suc i) (omega (arith, l))))
    ∙ ap (map decimal) r.2

-- ---- a group
pub record AtGroups (past : Past) : Type 0 where
  pub inputs : AtInputs past
  pub none : past.buffers ≡ []

behind_groups : (h m g x i t u : List ℕ) → i ≡ [] → t ≡ [] → u ≡ []
    → h ++ (m ++ ((g ++ x) ++ (i ++ u))) ≡ (h ++ (m ++ (g ++ (i ++ t)))) ++ x
behind_groups h m g x i t u ei et eu = rw (ei, et, eu) (simp (append_assoc, append-nil) refl)

no_inputs : (past : Past) → past.inputs ≡ length past.buffers → past.buffers ≡ []
    → inputs_text past.ranks (take past.inputs past.buffers) past.given ≡ []
no_inputs past c e = rw (all_taken past.buffers past.inputs c, e) refl

pub record Goes (At : Past → Type 0) (before : List ℕ) (next : Past) (x : List ℕ) : Type 0 where
  pub holds : At next
  pub written_is : body next ≡ before ++ x

pub group_goes : (past next : Past) (name : List ℕ) (members : List (List ℕ)) → past.ranks ≤ MOST_RANKS → AtGroups past
    → StandsIn Two past.version
    → is_name name ≡ true
    → group_line past name members ≡ Ok next
    → Goes (λ p. AtGroups p × (p.stage ≡ Groups)) (body past) next (line (form_words (group name members)))
unfolding group_line
group_goes past next name members le a stands named h =
    let n = some_of BadNumber (all_numbers members) _ next h in
    let t = passed (is_taken past name) NameTaken _ next n.2 in
    let at_most = passed (nat_le MOST_GROUPS (length past.groups)) TooMany _ next t.1 in
    let good = passed _ BadGroup _ next at_most.1 in
    let ms = n.0 in
    let are = members_are past.ranks ms le (not_not (are_members past.ranks ms) good.0) in
    let g : Group = record { name = name; members = ms } in
    let after : Past = record past { stage = Groups; groups = past.groups ++ g ∷ [] } in
    let e = a.inputs.early in
    let spelled = numbers_spelled members ms n.1 (λ i l. small (get_or ms i 0) past.ranks le (are.ranks i l)) in
    subst (λ p. Goes (λ p. AtGroups p × (p.stage ≡ Groups)) (body past) p (line (form_words (group name members))))
    (ok_is after next good.1) (record {
      holds = (
        record {
          inputs = record {
            early = record {
              facts = group_facts (outline past) g e.facts e.early
                  (record {
                    at_most = room MOST_GROUPS (length past.groups) at_most.0;
                    members = are;
                    stands = stands;
                    named = named;
                    fresh = new_name past name t.0;
                  });
              early = record {
                no_steps = e.early.no_steps;
                no_on = e.early.no_on;
                no_prints = e.early.no_prints;
                counted = e.early.counted;
              };
              no_choices = e.no_choices;
              none_printed = e.none_printed;
            };
            filled = a.inputs.filled;
          };
          none = a.none;
        },
        refl,
      );
      written_is =
          ap (λ (x : List ℕ). head_text past.version past.ranks
          ++ (remote_text past.remote ++ (x ++ (inputs_text past.ranks (take past.inputs past.buffers) past.given ++ tail after))))
          (flat_map-append group_text past.groups (g ∷ []) ∙ ap (λ (x : List ℕ). groups_text past.groups ++ x) (append-nil (group_text g)))
          ∙ behind_groups (head_text past.version past.ranks) (remote_text past.remote) (groups_text past.groups) (group_text g)
          (inputs_text past.ranks (take past.inputs past.buffers) past.given) (tail past) (tail after)
          (no_inputs past e.early.counted a.none) (no_tail past e.early.no_steps e.no_choices e.early.no_prints)
          (no_tail after e.early.no_steps e.no_choices e.early.no_prints)
          ∙ ap (λ (x : List (List ℕ)). body past ++ line (codes "group" ∷ name ∷ x)) (sym spelled);
    })
  where
    small : (m n : ℕ) → n ≤ MOST_RANKS → m < n → m < 2 ^ 64
    small m n at_most l = omega (arith, l, at_most)

-- ---- an input
pub input_goes : (past next : Past) (name : List ℕ) (ty : ElemType) (count : List ℕ) → AtInputs past → is_name name ≡ true
    → input_line past name ty count ≡ Ok next
    → (n : ℕ) × (Goes (λ p. (AtData p past.ranks ty n) × (p.stage ≡ data_due past.ranks ty n)) (body past) next
    (line (form_words (input name ty count))))
unfolding input_line
input_goes past next name ty count a named h =
    let n = some_of BadNumber (number_between 1 MOST_GIVEN count) _ next h in
    let t = passed (is_taken past name) NameTaken _ next n.2 in
    let full = passed (nat_le MOST_BUFFERS (length past.buffers)) TooMany _ next t.1 in
    let range = in_range 1 MOST_GIVEN n.0 count n.1 in
    let c : Buffer = input_buffer past.ranks name ty n.0 in
    let after : Past = record past { stage = data_due past.ranks ty n.0; buffers = past.buffers ++ c ∷ []; inputs = past.inputs + 1 } in
    let e = a.early in
    let counted = e.early.counted in
    let l = longer past.buffers c in
    let some_rank = e.facts.some_rank in (
      n.0,
      subst (λ p. Goes (λ p. (AtData p past.ranks ty n.0) × (p.stage ≡ data_due past.ranks ty n.0)) (body past) p
          (line (form_words (input name ty count)))) (ok_is after next full.1) (record {
            holds = (
              record {
                early = record {
                  facts = input_facts (outline past) c e.facts e.early
                      (record {
                        at_most = room MOST_BUFFERS (length past.buffers) full.0;
                        held = refl;
                        some = range.least;
                        small = range.most;
                        named = named;
                        fresh = new_name past name t.0;
                      });
                  early = record {
                    no_steps = e.early.no_steps;
                    no_on = e.early.no_on;
                    no_prints = e.early.no_prints;
                    counted = omega (arith, counted, l);
                  };
                  no_choices = e.no_choices;
                  none_printed = e.none_printed;
                };
                earlier = past.buffers;
                newest = c;
                are = refl;
                type_is = refl;
                length_is = refl;
                filling = starts_filling past.ranks past.buffers c past.given a.filled;
                due = omega (arith, some_rank);
              },
              refl,
            );
            written_is =
                ap (λ (x : List ℕ). head_text past.version past.ranks
                ++ (remote_text past.remote ++ (groups_text past.groups ++ (x ++ tail after))))
                (ap (λ (bs : List Buffer). inputs_text past.ranks bs past.given)
                (all_taken (past.buffers ++ c ∷ []) (past.inputs + 1) (omega (arith, counted, l)))
                ∙ one_input past.ranks past.buffers c past.given a.filled
                ∙ ap (λ (bs : List Buffer). inputs_text past.ranks bs past.given ++ input_text c)
                (sym (all_taken past.buffers past.inputs counted)))
                ∙ behind_inputs (head_text past.version past.ranks) (remote_text past.remote) (groups_text past.groups)
                (inputs_text past.ranks (take past.inputs past.buffers) past.given) (input_text c) (tail past) (tail after)
                (no_tail past e.early.no_steps e.no_choices e.early.no_prints)
                (no_tail after e.early.no_steps e.no_choices e.early.no_prints)
                ∙ ap (λ (x : List ℕ). body past ++ line (codes "input" ∷ name ∷ type_word ty ∷ x ∷ []))
                (sym (between_spelled 1 MOST_GIVEN n.0 count (omega arith) n.1));
          }),
    )

-- ---- a data line
unflawed : (r : Result (List ℕ) Flaw) (x : List ℕ) → unless_flawed r ≡ Ok x → r ≡ Ok x
unflawed (Ok y) x h = ap (λ (x : List ℕ). Ok x) (same_list y x h)
  where
    same_list : (y x : List ℕ) → unless_flawed (Ok y) ≡ Ok x → y ≡ x
    same_list y x h = cc
unflawed (Err Malformed) x h = cc
unflawed (Err NoValue) x h = cc

is_list : (c : Buffer) (ty : ElemType) (count : ℕ) (bytes : List ℕ) → c.ty ≡ ty → c.spread.length ≡ count
    → length bytes ≡ count * bytes_of ty → All (λ x. x < 256) bytes → IsListOf c bytes
is_list c ty count bytes et es len small =
    record { whole = len ∙ ap (λ t. count * bytes_of t) (sym et) ∙ ap (λ n. n * bytes_of c.ty) (sym es); bytes = small }

-- the lists are all there, or one more is due
pub record Given (left : ℕ) (ty : ElemType) (count : ℕ) (p : Past) : Type 0 where
  pub stage_is : p.stage ≡ data_due left ty count
  pub more : 0 < left → AtData p left ty count
  pub done : left ≡ 0 → AtInputs p

pub data_goes : (past next : Past) (left : ℕ) (ty : ElemType) (count : ℕ) (l : List ℕ) → AtData past left ty count
    → values_line past left ty count l ≡ Ok next → Goes (Given (left - 1) ty count) (body past) next (l ++ 10 ∷ [])
unfolding values_line
data_goes past next left ty count l d h =
    let b = ok_of (unless_flawed (data_line ty count (words l))) _ next h in
    let said = data_said ty count (words l) b.0 (unflawed (data_line ty count (words l)) b.0 b.1) in
    let after : Past = record past { stage = data_due (left - 1) ty count; given = past.given ++ b.0 ∷ [] } in
    let is = is_list d.newest ty count b.0 d.type_is d.length_is said.each said.small in
    let more = fills past.ranks left d.earlier d.newest past.given b.0 d.due is d.filling in
    let e = d.early in
    let early : AtEarly after = record { facts = e.facts; early = e.early; no_choices = e.no_choices; none_printed = e.none_printed } in
    subst (λ p. Goes (Given (left - 1) ty count) (body past) p (l ++ 10 ∷ [])) (ok_is after next b.2) (record {
      holds = record {
        stage_is = refl;
        more = λ due. record {
          early = early;
          earlier = d.earlier;
          newest = d.newest;
          are = d.are;
          type_is = d.type_is;
          length_is = d.length_is;
          filling = more;
          due = due;
        };
        done = λ none. record {
          early = early;
          filled = subst (λ (bs : List Buffer). Filled past.ranks bs (past.given ++ b.0 ∷ [])) (sym d.are)
              (is_filled past.ranks d.earlier d.newest (past.given ++ b.0 ∷ [])
              (subst (λ n. Filling past.ranks n d.earlier d.newest (past.given ++ b.0 ∷ [])) none more));
        };
      };
      written_is =
          ap (λ (x : List ℕ). head_text past.version past.ranks
          ++ (remote_text past.remote ++ (groups_text past.groups ++ (x ++ tail past))))
          (one_more d.earlier d.newest past.given b.0 d.are e.early.counted d.due d.filling)
          ∙ behind_inputs (head_text past.version past.ranks) (remote_text past.remote) (groups_text past.groups)
          (inputs_text past.ranks (take past.inputs past.buffers) past.given) (data_text d.newest b.0) (tail past) (tail past)
          (no_tail past e.early.no_steps e.no_choices e.early.no_prints) (no_tail past e.early.no_steps e.no_choices e.early.no_prints)
          ∙ ap (λ (t : ElemType). body past ++ line (map (value_word t) (elements t b.0))) d.type_is
          ∙ ap (λ (x : List ℕ). body past ++ x) (sym (rejoined l (map (value_word ty) (elements ty b.0)) said.spelled));
    })
  where
    one_more : (earlier : List Buffer) (newest : Buffer) (given : List (List ℕ)) (x : List ℕ) → past.buffers ≡ earlier ++ newest ∷ []
        → past.inputs ≡ length past.buffers → 0 < left → Filling past.ranks left earlier newest given
        → inputs_text past.ranks (take past.inputs past.buffers) (given ++ x ∷ [])
        ≡ inputs_text past.ranks (take past.inputs past.buffers) given ++ data_text newest x
    one_more earlier newest given x are counted due filling =
        rw (all_taken past.buffers past.inputs counted, are) (one_data_line past.ranks left earlier newest given x due filling)
