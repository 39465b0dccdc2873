pub mod OnePort
pub mod RunUses
