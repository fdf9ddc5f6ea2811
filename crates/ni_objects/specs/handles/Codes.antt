-- How a table is stored: as the tuple of its parts.
use Rattle.std.specs.Prelude.{ℕ, List, refl}
use Rattle.std.specs.Coded.{Coded, code_by, coded×, coded_ℕ, coded_list}
use Rattle.ptl_types.specs.declared.handles.Handle.{Handle}
use Rattle.ni_model.specs.Tables.{Live, Table}

abbrev pub handle_code : Coded Handle
handle_code = code_by (ℕ × ℕ) (coded× coded_ℕ coded_ℕ) (λ h. (h.slot, h.stamp)) (λ p. record { slot = p.0; stamp = p.1 }) (λ _. refl)

abbrev pub live_code : {A : Type 0} → Coded A → Coded (Live A)
live_code {A} code =
    code_by (Handle × A) (coded× handle_code code) (λ x. (x.handle, x.value)) (λ p. record { handle = p.0; value = p.1 }) (λ _. refl)

abbrev pub table_code : {A : Type 0} → Coded A → Coded (Table A)
table_code {A} code =
    code_by
    (List (Live A) × (ℕ × ℕ))
    (coded× (coded_list (live_code code)) (coded× coded_ℕ coded_ℕ))
    (λ t. (t.live, (t.given, t.limit)))
    (λ p. record { live = p.0; given = p.1.0; limit = p.1.1 })
    (λ _. refl)
