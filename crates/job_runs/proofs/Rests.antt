-- What was run, and in which order.
use Rattle.std.proofs.Common.{◌≡◌, ◌<◌, ℕ, List, [], refl, sym, ◌∙◌, ap, subst}
use Rattle.rand_pcg.specs.Lcg.{Lcg}
use Rattle.coll_shape.specs.Meaning.{Lists}
use Rattle.cuts.specs.view.Slots.{Slots}
use Rattle.cuts.specs.histories.Plans.{system_of}
use Rattle.cuts.specs.histories.System.{System}
use Rattle.cuts.specs.orders.Chosen.{Scene, first_scene}
use Rattle.schedule_compiler.specs.Schedules.{ScheduleOf}
use Rattle.worlds.specs.Later.{IsLater}
use Rattle.worlds.specs.Runs.{Running, chosen_run}
use Rattle.worlds.specs.World.{WorldState, ranks_in, scene_in}
use Rattle.job_runs.specs.Runs.{chosen_number, generator, words_left}

-- the ranks of a world are what they were
pub same-ranks : (w v : WorldState) (slots : ℕ → Slots) → IsLater w v → ranks_in v slots ≡ ranks_in w slots
same-ranks w v slots later =
    ap (λ (s : ScheduleOf). system_of s.plan v.inputs slots) later.schedule
    ∙ ap (λ (i : Lists). system_of w.schedule.plan i slots) later.inputs

-- so many steps from a scene on
after : System → ℕ → ℕ → Scene → Lcg → Running Lcg
after k window n scene g = chosen_run k window chosen_number words_left n (record { scene = scene; chooser = g })

-- the run from a scene that is the first one, by a generator that is the seed's
pub seeded : (seed : ℕ) (k : System) (window n : ℕ) (z : Scene) (g : Lcg) (r : Running Lcg) → z ≡ first_scene → g ≡ generator seed
    → chosen_run k window chosen_number words_left n (record { scene = z; chooser = g }) ≡ r
    → chosen_run k window chosen_number words_left n (record { scene = first_scene; chooser = generator seed }) ≡ r
unfolding after
seeded seed k window n z g r first same run =
    ap (λ (y : Scene). after k window n y (generator seed)) (sym first) ∙ (ap (λ (x : Lcg). after k window n z x) (sym same) ∙ run)

-- the run of a world from its opening on, with what the world then is
pub moved : (seed : ℕ) (w v : WorldState) (g h : Lcg) (slots : ℕ → Slots) (n : ℕ) → IsLater w v → scene_in w ≡ first_scene →
    g ≡ generator seed
    → chosen_run (ranks_in w slots) w.window chosen_number words_left n (record { scene = scene_in w; chooser = g })
    ≡ record { scene = scene_in v; chooser = h }
    → chosen_run (ranks_in v slots) v.window chosen_number words_left n (record { scene = first_scene; chooser = generator seed })
    ≡ record { scene = scene_in v; chooser = h }
unfolding after
moved seed w v g h slots n later first same run =
    ap (λ (s : ScheduleOf). after (system_of s.plan v.inputs slots) v.window n first_scene (generator seed)) later.schedule
    ∙ (ap (λ (i : Lists). after (system_of w.schedule.plan i slots) v.window n first_scene (generator seed)) later.inputs
    ∙ (ap (λ (m : ℕ). after (ranks_in w slots) m n first_scene (generator seed)) later.window
    ∙ seeded seed (ranks_in w slots) w.window n (scene_in w) g (record { scene = scene_in v; chooser = h }) first same run))
