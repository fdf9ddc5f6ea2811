-- A line that is read in parts.
use Rattle.std.proofs.Common.{◌≡◌, ℕ, zero, suc, ◌+◌, ◌<◌, ◌≤◌, List, [], ◌∷◌, ◌++◌, length, take, drop, Bool, true, false, cond, Option}
use Rattle.std.proofs.Common.{Some, None, add-one, Bor, refl, sym, ap, ◌∙◌, append_assoc, arith, subst, length-append, inl, inr}
use Rattle.std.specs.Prelude.{◌==◌}
use Rattle.std.specs.List.{join_with_byte}
use Rattle.std.proofs.lemmas.List.{append-nil, drop_all, length-take, take-append-drop, take-append-le}
use Rattle.std.proofs.lemmas.List.Splits.{join_with_byte-slice_split}
use Rattle.std.proofs.lemmas.List.Elements.{All-append, All-take}
use Rattle.coll_text.specs.Cuts.{parts_after}
use Rattle.coll_text.specs.Text.{lines}
use Rattle.port_io.specs.Ends.{GivesFront, Inflow, IsAtEnd}
use Rattle.run_text.proofs.Fronts.{GivesFront-nothing, GivesFront-then}
use Rattle.log_lines.specs.declared.lines.TheConstants.{LONGEST_LINE}
use Rattle.log_top.specs.Reading.{GoesOn, Looks, More, NoBreak, Parts, Reader, Reads, SkippedSoFar, Skips}
use Rattle.log_top.specs.declared.reading.Read.{Read}
use Rattle.log_top.specs.declared.reading.Read.TheVariants.{Line, Long, Last}
use Rattle.log_verdict.proofs.Pieces.{not_empty}
use Rattle.log_top.proofs.Lines.{free_one}

-- ---- a text that is cut at its first LF

abbrev pub CutAs : List ℕ → List ℕ → Option (Bor (List ℕ)) → Type 0
CutAs held front None = (held ≡ front) × NoBreak front
CutAs held front (Some after) = (held ≡ front ++ 10 ∷ after.now) × NoBreak front

none_free : NoBreak []
none_free k d lt = absurd (omega arith)

-- a byte before the first piece
abbrev onto : ℕ → List (List ℕ) → List (List ℕ)
onto x [] = (x ∷ []) ∷ []
onto x (w ∷ ws) = (x ∷ w) ∷ ws

piece_free : (held front : List ℕ) (ps : List (List ℕ)) → lines held ≡ front ∷ ps → NoBreak front
piece_free [] front ps e = let none : [] ≡ front = cc in subst NoBreak none none_free
piece_free (x ∷ xs) front ps e = at (x == 10) refl (lines xs) refl (λ (w : List ℕ) (ws : List (List ℕ)). piece_free xs w ws) e
  where
    at : (t : Bool) → x == 10 ≡ t → (ws : List (List ℕ)) → lines xs ≡ ws
        → ((w : List ℕ) (vs : List (List ℕ)) → lines xs ≡ w ∷ vs → NoBreak w) → cond t ([] ∷ ws) (onto x ws) ≡ front ∷ ps → NoBreak front
    at true is ws are on e = let none : [] ≡ front = cc in subst NoBreak none none_free
    at false is [] are on e = absurd (not_empty 10 xs are)
    at false is (w ∷ ws) are on e =
        let whole : x ∷ w ≡ front = cc in
        subst NoBreak whole (All-append (λ b. b == 10 ≡ false) (x ∷ []) w (free_one x is) (on w ws are))

join_more : (front : List ℕ) (ps : List (List ℕ)) → (ps ≡ [] → ⊥) → join_with_byte 10 (front ∷ ps) ≡ front ++ 10 ∷ join_with_byte 10 ps
join_more front [] some = absurd (some refl)
join_more front (p ∷ ps) some = refl

pub cut_as : (held front : List ℕ) (after : Option (Bor (List ℕ))) → lines held ≡ front ∷ parts_after 10 after → CutAs held front after
cut_as held front None e = (sym (join_with_byte-slice_split 10 held) ∙ ap (join_with_byte 10) e, piece_free held front [] e)
cut_as held front (Some after) e = (
  sym (join_with_byte-slice_split 10 held) ∙ ap (join_with_byte 10) e ∙ join_more front (lines after.now) (not_empty 10 after.now)
      ∙ ap (λ (x : List ℕ). front ++ 10 ∷ x) (join_with_byte-slice_split 10 after.now),
  piece_free held front (lines after.now) e,
)

-- what was cut lies in it
pub front_within : (held front : List ℕ) (after : Option (Bor (List ℕ))) → CutAs held front after → length front ≤ length held
front_within held front None c = let e = ap length c.0 in omega (arith, e)
front_within held front (Some x) c = let e = ap length c.0 in let a = length-append front (10 ∷ x.now) in omega (arith, e, a)

pub lf_within : (held front after : List ℕ) → held ≡ front ++ 10 ∷ after → length front + 1 ≤ length held
lf_within held front after c = let e = ap length c in let a = length-append front (10 ∷ after) in omega (arith, e, a)

-- ---- a look at what is held

module _ (held line front line' : List ℕ) (after : Option (Bor (List ℕ))) (cut : CutAs held front after) where
  -- the line has as many bytes as it may, and one more
  pub looks_long : (room : ℕ) → room ≤ length front → length line + room ≡ LONGEST_LINE + 1 → line' ≡ line ++ take room front
      → Looks (record { held = held; line = line }) (record { held = drop room held; line = line' }) (Some Long)
  looks_long room le full is = at after cut
    where
      all : (o : Option (Bor (List ℕ))) → CutAs held front o → NoBreak front
      all None c = c.1
      all (Some x) c = c.1

      front_of : (o : Option (Bor (List ℕ))) → CutAs held front o → take room held ≡ take room front
      front_of None c = ap (take room) c.0
      front_of (Some x) c = ap (take room) c.0 ∙ take-append-le room front (10 ∷ x.now) le

      at : (o : Option (Bor (List ℕ))) → CutAs held front o
          → Looks (record { held = held; line = line }) (record { held = drop room held; line = line' }) (Some Long)
      at o c = record {
        more = take room front;
        line = is;
        no_break = All-take (λ b. b == 10 ≡ false) room front (all o c);
        looks = (
          ap (λ x. line ++ x) (sym (take-append-drop room held) ∙ ap (λ x. x ++ drop room held) (front_of o c))
              ∙ sym (append_assoc line (take room front) (drop room held)) ∙ ap (λ x. x ++ drop room held) (sym is),
          let a = length-append line (take room front) in let b = length-take room front in let e = ap length is in
              omega (arith, a, b, e, le, full),
        );
      }

-- LF ends the line
pub looks_line : (held line front line' after : List ℕ) → held ≡ front ++ 10 ∷ after → NoBreak front → line' ≡ line ++ front
    → Looks (record { held = held; line = line }) (record { held = drop (length front + 1) held; line = line' }) (Some Line)
looks_line held line front line' after e free is = record {
  more = front;
  line = is;
  no_break = free;
  looks = ap (λ x. line ++ x) e ∙ sym (append_assoc line front (10 ∷ after)) ∙ ap (λ x. x ++ 10 ∷ after) (sym is)
      ∙ ap (λ x. line' ++ 10 ∷ x) (sym (ap (drop (length front + 1)) e ∙ past front after));
}
  where
    beyond : (front after : List ℕ) → drop (suc (length front)) (front ++ 10 ∷ after) ≡ after
    beyond [] after = refl
    beyond (x ∷ xs) after = beyond xs after

    past : (front after : List ℕ) → drop (length front + 1) (front ++ 10 ∷ after) ≡ after
    past front after = ap (λ (n : ℕ). drop n (front ++ 10 ∷ after)) (add-one (length front)) ∙ beyond front after

-- the line may go on
pub looks_none : (held line front line' : List ℕ) → held ≡ front → NoBreak front → line' ≡ line ++ front → length line' ≤ LONGEST_LINE
    → Looks (record { held = held; line = line }) (record { held = drop (length front) held; line = line' }) None
looks_none held line front line' e free is short = record {
  more = front;
  line = is;
  no_break = free;
  looks = (ap (λ x. line ++ x) e ∙ sym is, ap (drop (length front)) e ∙ drop_all (length front) front (omega arith), short);
}

-- ---- the rest of a line that has begun

-- as far as it was read
pub record GoneOn (r : Reader) (source : Inflow) (q : Reader) (now : Inflow) : Type 0 where
  pub bytes : List ℕ
  pub front : GivesFront source.left now.left bytes
  pub faults : source.faults ≤ now.faults
  pub no_break : NoBreak q.line
  pub line : r.line ++ bytes ≡ q.line
  pub held : q.held ≡ []
  pub short : length q.line ≤ LONGEST_LINE

pub gone_none : (r : Reader) (source : Inflow) → r.held ≡ [] → NoBreak r.line → length r.line ≤ LONGEST_LINE → GoneOn r source r source
gone_none r source none free short = record {
  bytes = [];
  front = GivesFront-nothing source.left;
  faults = omega arith;
  no_break = free;
  line = append-nil r.line;
  held = none;
  short = short;
}

module _ (r : Reader) (source : Inflow) (q : Reader) (now : Inflow) (so : GoneOn r source q now) (p : Reader) (later : Inflow) where
  -- the source is at its end
  pub gone_last : More q now p later false → GoesOn r source p later Last
  gone_last more =
      let over = more.over refl in
      record {
        bytes = so.bytes ++ p.held;
        front = GivesFront-then source.left now.left later.left so.bytes p.held so.front more.front;
        faults = let a = so.faults in let b = more.faults in omega (arith, a, b);
        no_break = subst NoBreak (sym more.line) so.no_break;
        parts = (
          ap (λ x. r.line ++ (so.bytes ++ x)) over.1 ∙ ap (λ x. r.line ++ x) (append-nil so.bytes) ∙ so.line ∙ sym more.line,
          over.1,
        );
        over = λ e. over.0;
      }

  module _ (more : More q now p later true) (s : Reader) where
    all_of : r.line ++ (so.bytes ++ p.held) ≡ p.line ++ p.held
    all_of = sym (append_assoc r.line so.bytes p.held) ∙ ap (λ x. x ++ p.held) (so.line ∙ sym more.line)

    free : (read : Option Read) → Looks p s read → NoBreak s.line
    free read l =
        subst NoBreak (sym l.line) (All-append (λ b. b == 10 ≡ false) p.line l.more (subst NoBreak (sym more.line) so.no_break) l.no_break)

    pub gone_on : Looks p s None → GoneOn r source s later
    gone_on l = record {
      bytes = so.bytes ++ p.held;
      front = GivesFront-then source.left now.left later.left so.bytes p.held so.front more.front;
      faults = let a = so.faults in let b = more.faults in omega (arith, a, b);
      no_break = free None l;
      line = all_of ∙ l.looks.0;
      held = l.looks.1;
      short = l.looks.2;
    }

    pub gone_to : (read : Read) → Looks p s (Some read) → GoesOn r source s later read
    gone_to Line l = record {
      bytes = so.bytes ++ p.held;
      front = GivesFront-then source.left now.left later.left so.bytes p.held so.front more.front;
      faults = let a = so.faults in let b = more.faults in omega (arith, a, b);
      no_break = free (Some Line) l;
      parts = all_of ∙ l.looks;
      over = λ e. absurd cc;
    }
    gone_to Long l = record {
      bytes = so.bytes ++ p.held;
      front = GivesFront-then source.left now.left later.left so.bytes p.held so.front more.front;
      faults = let a = so.faults in let b = more.faults in omega (arith, a, b);
      no_break = free (Some Long) l;
      parts = (all_of ∙ l.looks.0, l.looks.1);
      over = λ e. absurd cc;
    }
    gone_to Last l = absurd l.looks

    -- the line became longer
    pub longer : Looks p s None → length q.line < length s.line
    longer l =
        let some = more.goes_on refl in
        let a = ap length more.line in
        let b = ap length l.looks.0 in
        let c = length-append p.line p.held in
        omega (arith, some, a, b, c)

-- ---- the next line

module _ (r q : Reader) (source : Inflow) where
  abbrev cleared : Reader
  cleared = record { held = r.held; line = [] }

  pub reads_held : (read : Read) → Looks cleared q (Some read) → Reads r source q source read
  reads_held Line l = record {
    bytes = [];
    front = GivesFront-nothing source.left;
    faults = omega arith;
    no_break = subst NoBreak (sym l.line) l.no_break;
    parts = append-nil r.held ∙ l.looks;
    over = λ e. absurd cc;
    asks = inl refl;
  }
  reads_held Long l = record {
    bytes = [];
    front = GivesFront-nothing source.left;
    faults = omega arith;
    no_break = subst NoBreak (sym l.line) l.no_break;
    parts = (append-nil r.held ∙ l.looks.0, l.looks.1);
    over = λ e. absurd cc;
    asks = inl refl;
  }
  reads_held Last l = absurd l.looks

  module _ (l : Looks cleared q None) where
    pub begun_free : NoBreak q.line
    begun_free = subst NoBreak (sym l.line) l.no_break

    pub reads_on : (p : Reader) (later : Inflow) (read : Read) → GoesOn q source p later read → Reads r source p later read
    reads_on p later read g = record {
      bytes = g.bytes;
      front = g.front;
      faults = g.faults;
      no_break = g.no_break;
      parts = subst (λ x. Parts read (x ++ g.bytes) p.line p.held) (sym l.looks.0) g.parts;
      over = g.over;
      asks = inr (subst NoBreak (sym l.looks.0) begun_free);
    }

-- ---- what is left of a line

pub skipped_none : (r : Reader) (source : Inflow) → SkippedSoFar r source r source
skipped_none r source = record {
  bytes = [];
  passed = [];
  front = GivesFront-nothing source.left;
  faults = omega arith;
  no_break = none_free;
  parts = append-nil r.held;
}

module _ (r : Reader) (source : Inflow) (q : Reader) (now : Inflow) (so : SkippedSoFar r source q now) (p : Reader) (later : Inflow) where
  parts_on : (bytes : List ℕ) → r.held ++ (so.bytes ++ bytes) ≡ so.passed ++ (q.held ++ bytes)
  parts_on bytes = sym (append_assoc r.held so.bytes bytes) ∙ ap (λ x. x ++ bytes) so.parts ∙ append_assoc so.passed q.held bytes

  free_on : NoBreak p.line → NoBreak (so.passed ++ p.line)
  free_on free = All-append (λ b. b == 10 ≡ false) so.passed p.line so.no_break free

  pub skipped_on : Reads q now p later Long → SkippedSoFar r source p later
  skipped_on l = record {
    bytes = so.bytes ++ l.bytes;
    passed = so.passed ++ p.line;
    front = GivesFront-then source.left now.left later.left so.bytes l.bytes so.front l.front;
    faults = let a = so.faults in let b = l.faults in omega (arith, a, b);
    no_break = free_on l.no_break;
    parts = parts_on l.bytes ∙ ap (λ x. so.passed ++ x) l.parts.0 ∙ sym (append_assoc so.passed p.line p.held);
  }

  pub skips_line : Reads q now p later Line → Skips r source p later true
  skips_line l = record {
    bytes = so.bytes ++ l.bytes;
    passed = so.passed ++ p.line;
    front = GivesFront-then source.left now.left later.left so.bytes l.bytes so.front l.front;
    faults = let a = so.faults in let b = l.faults in omega (arith, a, b);
    no_break = free_on l.no_break;
    parts = parts_on l.bytes ∙ ap (λ x. so.passed ++ x) l.parts ∙ sym (append_assoc so.passed p.line (10 ∷ p.held));
    over = λ e. absurd cc;
  }

  pub skips_all : Reads q now p later Last → Skips r source p later false
  skips_all l = record {
    bytes = so.bytes ++ l.bytes;
    passed = so.passed ++ p.line;
    front = GivesFront-then source.left now.left later.left so.bytes l.bytes so.front l.front;
    faults = let a = so.faults in let b = l.faults in omega (arith, a, b);
    no_break = free_on l.no_break;
    parts = (parts_on l.bytes ∙ ap (λ x. so.passed ++ x) l.parts.0, l.parts.1);
    over = λ e. l.over refl;
  }
