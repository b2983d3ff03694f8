-- The bench set (docs/RULES.md, "Settings").
use Rattle.std.specs.Prelude.{ℤ, pos}
use Rattle.settings.specs.declared.Settings.{Settings}

-- T 600; speed 8192, Kcor 64, Ki 128; V 4096; Q 3277; Kr 75; Kt 310; Kth 164; Kn 64; F 2458; R 41; with any current gains
abbrev pub bench_with : ℤ → ℤ → ℤ → Settings
bench_with kp kcor ki = record {
  t = pos 600;
  skp = pos 8192;
  skcor = pos 64;
  ski = pos 128;
  ckp = kp;
  ckcor = kcor;
  cki = ki;
  v = pos 4096;
  q = pos 3277;
  kr = pos 75;
  kt = pos 310;
  kth = pos 164;
  kn = pos 64;
  f = pos 2458;
  r = pos 41;
}

-- current 4096, Kcor 256, Ki 256
unfoldable pub bench_settings : Settings
bench_settings = bench_with (pos 4096) (pos 256) (pos 256)
