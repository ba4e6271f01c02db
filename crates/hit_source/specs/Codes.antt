-- The codes by which a proof tells hits and standings apart, for the values of what holds them.
use Rattle.std.specs.Prelude.{ℕ, Bool, List, Option, refl}
use Rattle.std.specs.Coded.{Coded, code_by, coded×, coded_list, coded_option, coded_bool, coded_ℕ}
use Rattle.hamming_model.specs.declared.hit.Hit.{Hit}
use Rattle.hit_source.specs.Sources.{Standing}

-- a hit by its distance and its key
abbrev pub hit_code : Coded Hit
hit_code = code_by (ℕ × ℕ) (coded× coded_ℕ coded_ℕ) (λ hit. (hit.dist, hit.key))
    (λ p. record { dist = p.0; key = p.1 }) (λ _. refl)

-- a radius or a floor, if there is one
abbrev pub some_code : Coded (Option ℕ)
some_code = coded_option coded_ℕ

-- what a standing is made of
abbrev pub Parts : Type 0
Parts = (ℕ × (List Hit × Option ℕ)) × ((ℕ × Bool) × (Option ℕ × ℕ))

-- and these as a tuple
abbrev pub parts_code : Coded Parts
parts_code =
    coded× (coded× coded_ℕ (coded× (coded_list hit_code) some_code))
    (coded× (coded× coded_ℕ coded_bool) (coded× some_code coded_ℕ))

-- a standing by its parts
abbrev pub standing_code : Coded Standing
standing_code = code_by Parts parts_code
    (λ s. ((s.given, (s.waiting, s.floor)), ((s.reads, s.ended), (s.begun, s.units))))
    (λ p. record {
      given = p.0.0;
      waiting = p.0.1.0;
      floor = p.0.1.1;
      reads = p.1.0.0;
      ended = p.1.0.1;
      begun = p.1.1.0;
      units = p.1.1.1;
    })
    (λ _. refl)
