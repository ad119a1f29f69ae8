-- Two plain numbers that count the same are one.
use Rattle.std.proofs.Common.{◌≡◌, ℕ, ap}
use Rattle.cache_ident.specs.declared.names.Frame.{Frame}
use Rattle.cache_ident.specs.declared.names.SpaceNo.{SpaceNo}
use Rattle.cache_ident.specs.declared.names.ThreadNo.{ThreadNo}
use Rattle.cache_ident.specs.declared.names.Vpn.{Vpn}

pub same_space : (a b : SpaceNo) → a.0 ≡ b.0 → a ≡ b
same_space a b e = ap (λ (n : ℕ). let x : SpaceNo = record { 0 = n } in x) e

pub same_thread : (a b : ThreadNo) → a.0 ≡ b.0 → a ≡ b
same_thread a b e = ap (λ (n : ℕ). let x : ThreadNo = record { 0 = n } in x) e

pub same_vpn : (a b : Vpn) → a.0 ≡ b.0 → a ≡ b
same_vpn a b e = ap (λ (n : ℕ). let x : Vpn = record { 0 = n } in x) e

pub same_frame : (a b : Frame) → a.0 ≡ b.0 → a ≡ b
same_frame a b e = ap (λ (n : ℕ). let x : Frame = record { 0 = n } in x) e
