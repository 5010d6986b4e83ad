-- What the bits of REX, VEX and EVEX say. VEX and EVEX hold R, X, B, vvvv, R' and V' inverted.
use Rattle.std.specs.Prelude.{ℕ, ◌+◌, ◌-◌, ◌*◌, ◌/◌, ◌%◌, ◌==◌, false}
use Rattle.std.specs.Int.{bit_at}
use Rattle.row_table.specs.declared.kinds.Class.TheVariants.{Legacy, Vex, Evex}
use Rattle.form_scan.specs.declared.kinds.Payload.{Payload}

-- REX is 0100 W R X B (Intel SDM volume 2, section 2.2.1.2)
unfoldable pub of_rex : ℕ → ℕ → Payload
of_rex m rex = record {
  class = Legacy;
  map = m;
  w = bit_at rex 3 == 1;
  r = bit_at rex 2;
  x = bit_at rex 1;
  b = bit_at rex 0;
  v = 0;
  l = 0;
  pp = 0;
  z = false;
  bc = false;
  aaa = 0;
}

-- C5, then R vvvv L pp, with map 1 (Intel SDM volume 2, section 2.3.5)
unfoldable pub of_vex_two : ℕ → Payload
of_vex_two p = record {
  class = Vex;
  map = 1;
  w = false;
  r = 1 - bit_at p 7;
  x = 0;
  b = 0;
  v = 15 - (p / 8) % 16;
  l = bit_at p 2;
  pp = p % 4;
  z = false;
  bc = false;
  aaa = 0;
}

-- C4, then R X B mmmmm, then W vvvv L pp (Intel SDM volume 2, section 2.3.5)
unfoldable pub of_vex_three : ℕ → ℕ → Payload
of_vex_three p q = record {
  class = Vex;
  map = p % 32;
  w = bit_at q 7 == 1;
  r = 1 - bit_at p 7;
  x = 1 - bit_at p 6;
  b = 1 - bit_at p 5;
  v = 15 - (q / 8) % 16;
  l = bit_at q 2;
  pp = q % 4;
  z = false;
  bc = false;
  aaa = 0;
}

-- 62, then R X B R' 0 mmm, then W vvvv 1 pp, then z L'L b V' aaa (Intel SDM volume 2, section 2.7.1)
unfoldable pub of_evex : ℕ → ℕ → ℕ → Payload
of_evex p q s = record {
  class = Evex;
  map = p % 8;
  w = bit_at q 7 == 1;
  r = (1 - bit_at p 7) + 2 * (1 - bit_at p 4);
  x = 1 - bit_at p 6;
  b = 1 - bit_at p 5;
  v = (15 - (q / 8) % 16) + 16 * (1 - bit_at s 3);
  l = (s / 32) % 4;
  pp = q % 4;
  z = bit_at s 7 == 1;
  bc = bit_at s 4 == 1;
  aaa = s % 8;
}
