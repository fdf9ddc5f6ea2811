use Rattle.std.proofs.Common.{◌≡◌, drop}
use Rattle.ni_model.specs.Refusals.{index_names_ct}
use Rattle.target_engine.specs.PortalTable.{seen_in}
use Rattle.target_engine.proofs.unlinks.some_names_ct.Given as goal

abbrev pub invariant-loop-portal_entry : goal.invariant-loop-portal_entry
invariant-loop-portal_entry l = index_names_ct l.ct (seen_in l.indices) ≡ index_names_ct l.ct
    (seen_in (drop l.portal_entry-index l.indices))
