-- Lines for a person, one after the other.
use Rattle.std.proofs.Common.{List, ℕ, [], ◌∷◌, ◌++◌, Result, Ok, Err, refl, sym, ap, ◌∙◌, append_assoc, append-nil}
use Rattle.std.specs.Prelude.{IsErr}
use Rattle.std.specs.List.{flat_map}
use Rattle.std.proofs.lemmas.List.Elements.{All-append, All-cons, All-nil}
use Rattle.std.proofs.lemmas.Grind.{flat_map-append}
use Rattle.port_io.specs.declared.ends.Failed.{Failed}
use Rattle.port_io.specs.Ends.{Outflow}
use Rattle.text_notes.specs.notes.Shown.{AreNotes, IsNote}
use Rattle.run_text.specs.Putting.{EndsWith}
use Rattle.run_text.proofs.Taking.{Appends-nothing, Appends-then}
use Rattle.note_lines.specs.Said.{Begins, BeginsNotes, SaysAll, TakesNotes}

one_line : (text : List ℕ) → IsNote text → AreNotes (text ++ 10 ∷ [])
one_line text is = (text ∷ [], All-cons IsNote text [] is (All-nil IsNote), sym (append-nil (text ++ 10 ∷ [])))

more_lines : (xs ys : List ℕ) → AreNotes xs → AreNotes ys → AreNotes (xs ++ ys)
more_lines xs ys a b = (
  a.0 ++ b.0,
  All-append IsNote a.0 b.0 a.1 b.1,
  ap (λ v. v ++ ys) a.2 ∙ ap (λ v. flat_map (λ text. text ++ 10 ∷ []) a.0 ++ v) b.2
      ∙ sym (flat_map-append (λ text. text ++ 10 ∷ []) a.0 b.0),
)

pub begins_with : (old new : Outflow) (text : List ℕ) (r : Result (Unit {0}) Failed) → EndsWith old new text r → Begins old new text
begins_with old new text (Ok done) ends = record { out = text; rest = []; whole = sym (append-nil text); appended = ends.appended }
begins_with old new text (Err failed) fails =
    record { out = fails.begun.out; rest = fails.rest; whole = fails.begun.whole; appended = fails.begun.appended }

-- a line was written
pub says_line : (text : List ℕ) (old new : Outflow) (r : Result (Unit {0}) Failed) → IsNote text → EndsWith old new (text ++ 10 ∷ []) r
    → SaysAll old new r
says_line text old new (Ok done) is ends = record { text = text ++ 10 ∷ []; notes = one_line text is; appended = ends.appended }
says_line text old new (Err failed) is fails =
    record { text = text ++ 10 ∷ []; notes = one_line text is; begun = begins_with old new (text ++ 10 ∷ []) (Err failed) fails }

-- after some lines further ones
pub takes_then : (a b c : Outflow) → TakesNotes a b → TakesNotes b c → TakesNotes a c
takes_then a b c x y = record {
  text = x.text ++ y.text;
  notes = more_lines x.text y.text x.notes y.notes;
  appended = Appends-then a.taken b.taken c.taken x.text y.text x.appended y.appended;
}

pub begins_then : (a b c : Outflow) → TakesNotes a b → BeginsNotes b c → BeginsNotes a c
begins_then a b c x y = record {
  text = x.text ++ y.text;
  notes = more_lines x.text y.text x.notes y.notes;
  begun = record {
    out = x.text ++ y.begun.out;
    rest = y.begun.rest;
    whole = ap (λ v. x.text ++ v) y.begun.whole ∙ sym (append_assoc x.text y.begun.out y.begun.rest);
    appended = Appends-then a.taken b.taken c.taken x.text y.begun.out x.appended y.begun.appended;
  };
}

pub says_then : (a b c : Outflow) (r : Result (Unit {0}) Failed) → TakesNotes a b → SaysAll b c r → SaysAll a c r
says_then a b c (Ok done) x y = takes_then a b c x y
says_then a b c (Err failed) x y = begins_then a b c x y

-- all of them, or a beginning
pub begins_all : (a b : Outflow) (r : Result (Unit {0}) Failed) → SaysAll a b r → BeginsNotes a b
begins_all a b (Ok done) x =
    record {
      text = x.text;
      notes = x.notes;
      begun = record {
        out = x.text;
        rest = [];
        whole = sym (append-nil x.text);
        appended =
            x.appended;
      };
    }
begins_all a b (Err failed) x = x

-- what was said is at its end where a line failed
pub says_stops : (a b : Outflow) (r : Result (Unit {0}) Failed) → IsErr r → BeginsNotes a b → SaysAll a b r
says_stops a b (Ok done) is x = absurd (cc)
says_stops a b (Err failed) is x = x

pub no_lines : (a : Outflow) → TakesNotes a a
no_lines a = record { text = []; notes = ([], All-nil IsNote, refl); appended = Appends-nothing a.taken }
