-- Each setting's range (docs/RULES.md, "Settings"): the one place in specs and proofs that has its ends.
use Rattle.fixed.specs.Fixed.{Range}

-- T 100..4000
abbrev pub t : Range
t = record { lo = 100; hi = 4000 }

-- two gain sets, speed and current: Kp 1..32767, Kcor 0..4096, Ki 0..32767
abbrev pub kp : Range
kp = record { lo = 1; hi = 32767 }

abbrev pub kcor : Range
kcor = record { lo = 0; hi = 4096 }

abbrev pub ki : Range
ki = record { lo = 0; hi = 32767 }

-- V 1..4096, Q 1..8191
abbrev pub v : Range
v = record { lo = 1; hi = 4096 }

abbrev pub q : Range
q = record { lo = 1; hi = 8191 }

-- Kr 1..4096, Kt 0..32767, Kth 0..8191, Kn 1..4096
abbrev pub kr : Range
kr = record { lo = 1; hi = 4096 }

abbrev pub kt : Range
kt = record { lo = 0; hi = 32767 }

abbrev pub kth : Range
kth = record { lo = 0; hi = 8191 }

abbrev pub kn : Range
kn = record { lo = 1; hi = 4096 }

-- F 410..8191, R 1..8191
abbrev pub f : Range
f = record { lo = 410; hi = 8191 }

abbrev pub r : Range
r = record { lo = 1; hi = 8191 }
