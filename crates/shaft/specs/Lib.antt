pub mod Shaft
