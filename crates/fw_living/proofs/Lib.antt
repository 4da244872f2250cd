pub mod LivingLaws
