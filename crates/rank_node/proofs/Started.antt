-- What a start leaves, cell by cell.
use Rattle.std.proofs.Common.{◌≡◌, ◌<◌, ℕ, ◌+◌, Bool, false, List, [], ◌∷◌, ◌++◌, Result, Ok, Err, length, take, get_or, refl, ap, ◌∙◌, sym}
use Rattle.std.proofs.Common.{subst, arith}
use Rattle.std.proofs.lemmas.List.{take_more}
use Rattle.ptl_types.specs.declared.handles.Handle.{Handle}
use Rattle.ptl_types.specs.declared.entries.Entry.{Entry}
use Rattle.ptl_types.specs.declared.entries.UnexpectedHeader.{UnexpectedHeader}
use Rattle.ptl_types.specs.declared.entries.List.TheVariants.{Priority}
use Rattle.ptl_types.specs.declared.calls.NiFault.{NiFault}
use Rattle.ptl_types.specs.declared.calls.Appended.{Appended}
use Rattle.ptl_types.specs.declared.calls.Appended.TheVariants.{Linked, Consumed}
use Rattle.ni_model.specs.Tables.{handle}
use Rattle.ni_model.specs.Headers.{found_in}
use Rattle.ni_model.specs.Append.{append, append_fault}
use Rattle.ni_model.specs.State.{State, parts_of, with_parts}
use Rattle.ni_model.specs.Calls.{Done, ends, ends_by, Makes, me_append}
use Rattle.cuts.specs.view.Slots.{Slots, counter_at}
use Rattle.plan_core.specs.declared.calls.OwnCell.{OwnCell}
use Rattle.rank_node.specs.Handles.{Handles, Agrees, AreAllOf, with_entry_handle}
use Rattle.cuts.specs.start.Start.{entry_of, bring_all, with_brought, cell_started, cells_started}
use Rattle.rank_node.specs.Start.{IsAppended, AreStarted}
use Rattle.rank_node.proofs.Ended.{Went, went, refused, linked-persistent}
use Rattle.rank_node.proofs.Lists.{tells-front, tells-last, length-push}
use Rattle.rank_node.proofs.Steady.{linked-counters, linked-given}

-- ---- one append

-- an entry that was linked
module _ (e : Entry) (s t : State) (hs : Handles) (h : Handle) (taken : ℕ → Bool) (persistent : e.use_once ≡ false)
    (makes : Makes taken (λ slot. me_append slot 0 Priority e s) (ends t (Ok (Linked h)))) (all : AreAllOf s hs) where
  gone : Went t (with_parts (append makes.slot 0 Priority e (parts_of s)).parts s) (Linked h)
      (append makes.slot 0 Priority e (parts_of s)).appended
  gone = went (append_fault 0 e (parts_of s)) s (with_parts (append makes.slot 0 Priority e (parts_of s)).parts s) t
      (append makes.slot 0 Priority e (parts_of s)).appended (Linked h) makes.ended

  pub handle-is : h ≡ handle makes.slot s.entries_given
  handle-is = let same : Linked h ≡ Linked (handle makes.slot s.entries_given) = gone.answer
      ∙ linked-persistent makes.slot 0 Priority e s persistent in cc

  pub next-stamp : h.stamp ≡ length hs.entries
  next-stamp = ap (λ (x : Handle). x.stamp) handle-is ∙ all.entries

  all_left : AreAllOf (with_parts (append makes.slot 0 Priority e (parts_of s)).parts s) (with_entry_handle h hs)
  all_left = record {
    counters = (linked-counters makes.slot 0 Priority e (parts_of s) persistent).given ∙ all.counters;
    entries = linked-given makes.slot 0 Priority e (parts_of s) persistent ∙ ap (λ n. n + 1) all.entries ∙ sym (length-push hs.entries h);
    descriptors = all.descriptors;
    live = (linked-counters makes.slot 0 Priority e (parts_of s) persistent).handles ∙ all.live;
  }

  pub appended-linked : IsAppended e s t hs (with_entry_handle h hs)
  appended-linked = record {
    state = λ k g.
        let slot : makes.slot ≡ k.me s.entries_given = sym (ap (λ (x : Handle). x.slot) handle-is)
        ∙ sym (tells-last k.me hs.entries h g.entries) ∙ ap k.me (sym all.entries) in
        ap (λ (d : Done (Result Appended NiFault)). d.state) makes.ended ∙ ap (λ n. (me_append n 0 Priority e s).state) slot;
    kept = λ k g. record { counters = g.counters; entries = tells-front k.me hs.entries h g.entries; descriptors = g.descriptors };
    all = subst (λ v. AreAllOf v (with_entry_handle h hs)) (sym gone.state) all_left;
    only = record { counters = refl; descriptors = refl; room = refl; at_most = let l = length-push hs.entries h in omega arith };
  }

-- a use-once entry alone is consumed
pub never_consumed : (e : Entry) (s t : State) (u : UnexpectedHeader) (taken : ℕ → Bool) → e.use_once ≡ false →
    Makes taken (λ slot. me_append slot 0 Priority e s) (ends t (Ok (Consumed u))) → ⊥
never_consumed e s t u taken persistent makes =
    let gone = went (append_fault 0 e (parts_of s)) s (with_parts (append makes.slot 0 Priority e (parts_of s)).parts s) t
    (append makes.slot 0 Priority e (parts_of s)).appended (Consumed u) makes.ended in
    let same : Consumed u ≡ Linked (handle makes.slot s.entries_given) = gone.answer
    ∙ linked-persistent makes.slot 0 Priority e s persistent in
    absurd cc

-- a refused append changes nothing, whatever the slot
pub appended-refused : (e : Entry) (s t : State) (hs : Handles) (fault : NiFault) (taken : ℕ → Bool) →
    Makes taken (λ slot. me_append slot 0 Priority e s) (ends t (Err fault)) → AreAllOf s hs → IsAppended e s t hs hs
appended-refused e s t hs fault taken makes all =
    let r = refused (append_fault 0 e (parts_of s)) s (with_parts (append makes.slot 0 Priority e (parts_of s)).parts s) t
    (append makes.slot 0 Priority e (parts_of s)).appended fault makes.ended in
    record {
      state = λ k g. r.state ∙ sym (ap (λ o. (ends_by o s (with_parts (append (k.me s.entries_given) 0 Priority e (parts_of s)).parts s)
          (append (k.me s.entries_given) 0 Priority e (parts_of s)).appended).state) r.is);
      kept = λ k g. g;
      all = subst (λ v. AreAllOf v hs) (sym r.state) all;
      only = record { counters = refl; descriptors = refl; room = refl; at_most = omega arith };
    }

-- ---- one cell
pub started-one : (longest : ℕ) (cells : List ℕ) (ct : Handle) (c : OwnCell) (s t : State) (a b : Handles) →
    IsAppended (entry_of ct c) (with_brought longest ct c s) t a b → ((k : Slots) → Agrees k a → ct ≡ counter_at k cells c.number) →
    AreStarted longest cells (c ∷ []) s t a b
unfolding cell_started
started-one longest cells ct c s t a b one is = record {
  state = λ k g. one.state k g ∙ ap (λ h. (me_append (k.me s.entries_given) 0 Priority (entry_of h c) (with_brought longest h c s)).state)
      (is k (one.kept k g));
  kept = one.kept;
  all = one.all;
  only = one.only;
}

-- the entry and the state after the copying as they were computed
pub started-by : (longest : ℕ) (cells : List ℕ) (ct : Handle) (c : OwnCell) (e : Entry) (s v t : State) (a b : Handles) →
    e ≡ entry_of ct c → v ≡ record s { memory = bring_all longest c (found_in 0 e s.headers.unexpected) s.memory } →
    IsAppended e v t a b → ((k : Slots) → Agrees k a → ct ≡ counter_at k cells c.number) → AreStarted longest cells (c ∷ []) s t a b
started-by longest cells ct c e s v t a b is brought one counter =
    let there : v ≡ with_brought longest ct c s = brought ∙ ap
    (λ x. record s { memory = bring_all longest c (found_in 0 x s.headers.unexpected) s.memory }) is in
    started-one longest cells ct c s t a b (subst (λ x. IsAppended x (with_brought longest ct c s) t a b) is
    (subst (λ x. IsAppended e x t a b) there one)) counter

-- ---- the cells of a list, and one more
pub started-none : (longest : ℕ) (cells : List ℕ) (s : State) (a : Handles) → AreAllOf s a → AreStarted longest cells [] s s a a
started-none longest cells s a all = record {
  state = λ k g. refl;
  kept = λ k g. g;
  all = all;
  only =
      record { counters = refl; descriptors = refl; room = refl; at_most = omega arith };
}

cells-push : (longest : ℕ) (k : Slots) (cells : List ℕ) (front : List OwnCell) (c : OwnCell) (s : State) →
    cells_started longest k cells (front ++ c ∷ []) s ≡ cell_started longest k.me (counter_at k cells c.number) c
    (cells_started longest k cells front s)
cells-push longest k cells [] c s = refl
cells-push longest k cells (x ∷ front) c s = cells-push longest k cells front c
    (cell_started longest k.me (counter_at k cells x.number) x s)

started-next : (longest : ℕ) (cells : List ℕ) (front : List OwnCell) (c : OwnCell) (s t u : State) (a b d : Handles) →
    AreStarted longest cells front s t a b → AreStarted longest cells (c ∷ []) t u b d → AreStarted longest cells (front ++ c ∷ []) s u a d
started-next longest cells front c s t u a b d m n = record {
  state = λ k g. n.state k g ∙ ap (cell_started longest k.me (counter_at k cells c.number) c) (m.state k (n.kept k g))
      ∙ sym (cells-push longest k cells front c s);
  kept = λ k g. m.kept k (n.kept k g);
  all = n.all;
  only = record {
    counters = n.only.counters ∙ m.only.counters;
    descriptors = n.only.descriptors ∙ m.only.descriptors;
    room = n.only.room ∙ m.only.room;
    at_most = let x = m.only.at_most in let y = n.only.at_most in let l = length-push front c in omega arith;
  };
}

pub started-turn : (longest : ℕ) (cells : List ℕ) (own : List OwnCell) (s t u : State) (a b d : Handles) (i : ℕ) (z : OwnCell) →
    i < length own → AreStarted longest cells (take i own) s t a b → AreStarted longest cells (get_or own i z ∷ []) t u b d →
    AreStarted longest cells (take (i + 1) own) s u a d
started-turn longest cells own s t u a b d i z lt m n = subst (λ cs. AreStarted longest cells cs s u a d) (sym (take_more own i z lt))
    (started-next longest cells (take i own) (get_or own i z) s t u a b d m n)
