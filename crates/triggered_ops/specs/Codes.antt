-- How pending operations and their places are stored: as the tuple of their parts.
use Rattle.std.specs.Prelude.{ℕ, Bool, List, Option, refl}
use Rattle.std.specs.Coded.{Coded, code_by, coded×, coded_ℕ, coded_bool, coded_list, coded_option}
use Rattle.triggered_ops.specs.declared.spots.Spot.{Spot}
use Rattle.triggered_ops.specs.Layout.{Spotted}
use Rattle.triggered_ops.specs.Operations.{Operation, Operations}

abbrev pub operation_code : {D : Type 0} → Coded D → Coded (Operation D)
operation_code {D} code =
    code_by
    (ℕ × (D × (ℕ × (ℕ × (ℕ × Bool)))))
    (coded× coded_ℕ (coded× code (coded× coded_ℕ (coded× coded_ℕ (coded× coded_ℕ coded_bool)))))
    (λ p. (p.number, (p.action, (p.ct.slot, (p.ct.stamp, (p.threshold, p.due))))))
    (λ q.
    record {
      number = q.0;
      action = q.1.0;
      ct = record { slot = q.1.1.0; stamp = q.1.1.1.0 };
      threshold = q.1.1.1.1.0;
      due = q.1.1.1.1.1;
    })
    (λ _. refl)

abbrev pub operations_code : {D : Type 0} → Coded D → Coded (Operations D)
operations_code {D} code =
    code_by
    (List (Operation D) × (ℕ × ℕ))
    (coded× (coded_list (operation_code code)) (coded× coded_ℕ coded_ℕ))
    (λ t. (t.waiting, (t.given, t.limit)))
    (λ p. record { waiting = p.0; given = p.1.0; limit = p.1.1 })
    (λ _. refl)

abbrev pub spot_code : {D : Type 0} → Coded D → Coded (Spot D)
spot_code {D} code =
    code_by
    (ℕ × (ℕ × (ℕ × (ℕ × (Bool × Option D)))))
    (coded× coded_ℕ (coded× coded_ℕ (coded× coded_ℕ (coded× coded_ℕ (coded× coded_bool (coded_option code))))))
    (λ s. (s.number, (s.slot, (s.stamp, (s.threshold, (s.due, s.action))))))
    (λ q.
    record {
      number = q.0;
      slot = q.1.0;
      stamp = q.1.1.0;
      threshold = q.1.1.1.0;
      due = q.1.1.1.1.0;
      action = q.1.1.1.1.1;
    })
    (λ _. refl)

abbrev pub spotted_code : {D : Type 0} → Coded D → Coded (Spotted D)
spotted_code {D} code =
    code_by (List (Spot D) × ℕ) (coded× (coded_list (spot_code code)) coded_ℕ) (λ s. (s.spots, s.room))
    (λ p. record { spots = p.0; room = p.1 }) (λ _. refl)
